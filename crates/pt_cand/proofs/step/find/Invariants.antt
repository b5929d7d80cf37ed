use Rattle.std.proofs.Common.{◌≡◌, ◌-◌}
use Rattle.pt_cand.specs.Left.{left_of, places_of}
use Rattle.pt_cand.proofs.step.find.Given as goal

abbrev pub invariant-loop-at : goal.invariant-loop-at
invariant-loop-at l = (l.places ≡ places_of l.pass l.best) × (left_of l.pass l.best l.fn.from ≡ left_of l.pass l.best l.at)

abbrev pub decreases-loop-at : goal.decreases-loop-at
decreases-loop-at l = l.places - l.at.place
