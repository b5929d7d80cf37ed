use Rattle.std.proofs.Common.{◌≡◌, ℕ, List, ◌++◌, take, string_bytes}
use Rattle.pt_wire.specs.Printed.{PrintedByte}
use Rattle.pt_wire.specs.Spelling.{Chained}
use Rattle.pt_wire.proofs.printing.print_bytes.Given as goal

-- the bytes so far are printed
abbrev pub invariant-loop-byte : goal.invariant-loop-byte
invariant-loop-byte l = (held : List ℕ) × Chained PrintedByte (take l.byte-index l.bytes) held × (string_bytes l.out ≡ string_bytes l.fn.out ++ held)
