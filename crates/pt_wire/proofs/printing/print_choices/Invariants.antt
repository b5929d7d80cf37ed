use Rattle.std.proofs.Common.{◌+◌, take, string_bytes}
use Rattle.pt_wire.specs.Printed.{Printed}
use Rattle.pt_wire.proofs.printing.print_choices.Given as goal

-- the choices so far, and the one before the loop, are printed
abbrev pub invariant-loop-choice : goal.invariant-loop-choice
invariant-loop-choice l = Printed (take (l.choice-index + 1) l.list) (string_bytes l.out)
