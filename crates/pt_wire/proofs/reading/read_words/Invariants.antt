use Rattle.std.proofs.Common.{◌≡◌, ℕ, List, ◌++◌, length}
use Rattle.pt_choice.specs.declared.choice.Choice.{Choice}
use Rattle.pt_wire.specs.Answer.{IsGathered}
use Rattle.pt_wire.specs.Printed.{PrintedChoice}
use Rattle.pt_wire.proofs.JoinedTexts.{Marked}
use Rattle.pt_wire.proofs.reading.read_words.Given as goal

-- the text before the rest spells the choices so far, each with a space behind it
abbrev pub invariant-loop-choice : goal.invariant-loop-choice
invariant-loop-choice l = (all : List Choice) × (done : List ℕ) × Marked PrintedChoice 32 all done × IsGathered all l.gathered × (l.text ≡ done ++ l.rest)

abbrev pub decreases-loop-choice : goal.decreases-loop-choice
decreases-loop-choice l = length l.rest
