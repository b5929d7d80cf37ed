use Rattle.std.proofs.Common.{◌≡◌, ◌<◌, ◌-◌, true, length}
use Rattle.pt_shrink.specs.Progress.{GoesOn}
use Rattle.pt_shrink.proofs.round.settle.Given as goal

abbrev pub invariant-loop-best : goal.invariant-loop-best
invariant-loop-best g l = GoesOn (g.C.Check.step l.check) l.budget l.fn.first_best l.fn.log l.best l.log × (l.improved ≡ true → length l.fn.log.trail < length l.log.trail)

abbrev pub decreases-loop-best : goal.decreases-loop-best
decreases-loop-best g l = l.budget - length l.log.trail
