use Rattle.pt_shrink.specs.Progress.{GoesOn}
use Rattle.pt_shrink.proofs.leap.reach.Given as goal

abbrev pub invariant-loop-factor : goal.invariant-loop-factor
invariant-loop-factor g l = GoesOn (g.C.Check.step l.check) l.budget l.best l.fn.log l.best l.log

abbrev pub decreases-loop-factor : goal.decreases-loop-factor
decreases-loop-factor g l = l.factor
