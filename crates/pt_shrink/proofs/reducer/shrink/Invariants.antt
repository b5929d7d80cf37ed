use Rattle.std.proofs.Common.{◌≡◌, ◌-◌, true, length}
use Rattle.pt_case.specs.Ending.{is_failure}
use Rattle.pt_shrink.specs.Progress.{IsAt}
use Rattle.pt_shrink.proofs.reducer.shrink.Given as goal

abbrev pub invariant-loop-log : goal.invariant-loop-log
invariant-loop-log g l = (is_failure l.best.ending ≡ true) × IsAt (g.C.Check.step l.check) l.budget l.fn.first l.best l.log

abbrev pub decreases-loop-log : goal.decreases-loop-log
decreases-loop-log g l = l.budget - length l.log.trail
