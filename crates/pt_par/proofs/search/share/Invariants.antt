use Rattle.std.proofs.Common.{◌≡◌, ℕ, ◌<◌, ◌%◌}
use Rattle.pt_par.specs.Least.{IsSettled}
use Rattle.pt_par.proofs.search.share.Given as goal

-- the share's places so far are settled
abbrev pub invariant-loop-place : goal.invariant-loop-place
invariant-loop-place g l = (place : ℕ) → place % l.workers ≡ l.worker → place < l.place →
    IsSettled (g.C.Check.step l.check) l.best l.lists place
