use Rattle.std.proofs.Common.{◌≡◌, ℕ, List, ◌++◌, length}
use Rattle.pt_choice.specs.declared.choice.Choice.{Choice}
use Rattle.pt_wire.specs.Answer.{IsGathered}
use Rattle.pt_wire.specs.Stored.{StoredOne}
use Rattle.pt_wire.proofs.decoding.decode_one.Given as goal

-- the bytes before the rest spell the choices so far
abbrev pub invariant-loop-rest : goal.invariant-loop-rest
invariant-loop-rest l = (all : List Choice) × (done : List ℕ) × StoredOne all done × IsGathered all l.gathered × (l.bytes ≡ done ++ l.rest)

abbrev pub decreases-loop-rest : goal.decreases-loop-rest
decreases-loop-rest l = length l.rest
