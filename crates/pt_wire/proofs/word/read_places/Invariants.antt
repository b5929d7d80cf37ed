use Rattle.std.proofs.Common.{◌≡◌, ℕ, ◌<◌, List, ◌++◌, length}
use Rattle.pt_wire.specs.Printed.{PrintedNumber}
use Rattle.pt_wire.proofs.JoinedTexts.{Marked}
use Rattle.pt_wire.proofs.word.read_places.Given as goal

-- the text before the rest spells the places so far, each with a dot behind it
abbrev pub invariant-loop-place : goal.invariant-loop-place
invariant-loop-place l = (done : List ℕ) × Marked (PrintedNumber 255) 46 l.places done × (l.text ≡ done ++ l.rest) × (length l.places < 64)

abbrev pub decreases-loop-place : goal.decreases-loop-place
decreases-loop-place l = length l.rest
