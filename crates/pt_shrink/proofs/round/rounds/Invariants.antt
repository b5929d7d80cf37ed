use Rattle.std.proofs.Common.{◌-◌, length}
use Rattle.pt_shrink.specs.Progress.{GoesOn}
use Rattle.pt_shrink.proofs.round.rounds.Given as goal

abbrev pub invariant-loop-settled : goal.invariant-loop-settled
invariant-loop-settled g l = GoesOn (g.C.Check.step l.check) l.budget l.fn.first_best l.fn.log l.best l.log

abbrev pub decreases-loop-settled : goal.decreases-loop-settled
decreases-loop-settled g l = l.budget - length l.log.trail
