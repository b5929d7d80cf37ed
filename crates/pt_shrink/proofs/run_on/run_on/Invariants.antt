use Rattle.std.proofs.Common.{◌-◌, length}
use Rattle.pt_shrink.specs.Progress.{GoesOn}
use Rattle.pt_shrink.proofs.run_on.run_on.Given as goal

abbrev pub invariant-loop-best : goal.invariant-loop-best
invariant-loop-best g l = GoesOn (g.C.Check.step l.check) l.budget l.fn.gain.rec l.fn.log l.best l.log

abbrev pub decreases-loop-best : goal.decreases-loop-best
decreases-loop-best g l = l.budget - length l.log.trail
