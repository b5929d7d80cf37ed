use Rattle.std.proofs.Common.{◌≡◌, ◌<◌, true, length}
use Rattle.pt_shrink.specs.Progress.{GoesOn}
use Rattle.pt_shrink.proofs.round.round.Given as goal

abbrev pub invariant-loop-proposer : goal.invariant-loop-proposer
invariant-loop-proposer g l = GoesOn (g.C.Check.step l.check) l.budget l.fn.first_best l.fn.log l.best l.log × (l.improved ≡ true → length l.fn.log.trail < length l.log.trail)
