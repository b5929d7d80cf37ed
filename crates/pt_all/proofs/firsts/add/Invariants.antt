use Rattle.std.proofs.Common.{◌≡◌, ◌++◌, take, drop}
use Rattle.pt_all.specs.Progress.{with_failure}
use Rattle.pt_all.proofs.firsts.add.Given as goal

-- none of the origins so far is this one
abbrev pub invariant-loop-place : goal.invariant-loop-place
invariant-loop-place l = (l.firsts ≡ l.fn.firsts) × (with_failure l.run l.rec l.firsts.items ≡ take l.place l.firsts.items ++ with_failure l.run l.rec (drop l.place l.firsts.items))
