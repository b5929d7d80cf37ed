use Rattle.std.proofs.Common.{◌≡◌, ℕ, ◌≤◌, List, ◌++◌, length}
use Rattle.pt_wire.specs.Printed.{PrintedByte}
use Rattle.pt_wire.specs.Spelling.{Chained}
use Rattle.pt_wire.proofs.word.read_bytes.Given as goal

-- the text before the rest spells the bytes so far
abbrev pub invariant-loop-rest : goal.invariant-loop-rest
invariant-loop-rest l = (done : List ℕ) × Chained PrintedByte l.bytes done × (l.text ≡ done ++ l.rest) × (length l.bytes ≤ 64)

abbrev pub decreases-loop-rest : goal.decreases-loop-rest
decreases-loop-rest l = length l.rest
