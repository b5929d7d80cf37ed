use Rattle.std.proofs.Common.{◌≡◌, drop, map}
use Rattle.pt_ast.specs.Plain.{plain_invariant}
use Rattle.pt_machine.specs.World.{held}
use Rattle.pt_machine.proofs.holding.check_invariants.Given as goal

-- the invariants that are left decide
abbrev pub invariant-loop-invariant : goal.invariant-loop-invariant
invariant-loop-invariant l = held (map plain_invariant l.invariants) l.env ≡ held (map plain_invariant (drop l.invariant-index l.invariants)) l.env
