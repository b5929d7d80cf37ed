use Rattle.std.proofs.Common.{◌≡◌, ℕ, List, ◌++◌, length}
use Rattle.pt_wire.specs.Spelling.{Chained}
use Rattle.pt_wire.specs.Printed.{PrintedByte}
use Rattle.pt_lex.proofs.bytes.read_pairs.Given as goal

-- what was passed spells the bytes so far
abbrev pub invariant-loop-first : goal.invariant-loop-first
invariant-loop-first l = (passed : List ℕ) × Chained PrintedByte l.bytes passed × (l.text ≡ passed ++ l.rest)

abbrev pub decreases-loop-first : goal.decreases-loop-first
decreases-loop-first l = length l.rest
