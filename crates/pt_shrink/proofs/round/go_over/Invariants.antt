use Rattle.std.proofs.Common.{◌-◌, length}
use Rattle.pt_shrink.specs.Progress.{GoesOn}
use Rattle.pt_shrink.specs.Proposed.{AreHonest}
use Rattle.pt_shrink.proofs.round.go_over.Given as goal

abbrev pub invariant-loop-slots : goal.invariant-loop-slots
invariant-loop-slots g l = GoesOn (g.C.Check.step l.check) l.budget l.best l.fn.log l.best l.log × AreHonest l.best l.slots

abbrev pub decreases-loop-slots : goal.decreases-loop-slots
decreases-loop-slots g l = l.budget - length l.log.trail
