use Rattle.std.proofs.Common.{◌≡◌, ◌≤◌, ℕ, List, ◌++◌, length}
use Rattle.pt_choice.specs.declared.choice.Choice.{Choice}
use Rattle.pt_wire.specs.Answer.{IsGathered}
use Rattle.pt_wire.specs.Stored.{StoredOne}
use Rattle.pt_wire.proofs.decoding.read_list.Given as goal

-- so many choices were read, which the bytes before the rest spell
abbrev pub invariant-loop : goal.invariant-loop
invariant-loop l = (all : List Choice) × (done : List ℕ) × StoredOne all done × IsGathered all l.gathered × (l.held ≡ done ++ l.rest) × (length all ≡ l.counter) × (length l.rest ≤ length l.entry)
