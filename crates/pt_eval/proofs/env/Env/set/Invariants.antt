use Rattle.std.proofs.Common.{◌≡◌, ◌≤◌, ◌++◌, length, take, drop}
use Rattle.pt_eval.specs.Env.{with_value}
use Rattle.pt_eval.proofs.env.Env.set.Given as goal

-- the name is none of those behind the place
abbrev pub invariant-loop-place : goal.invariant-loop-place
invariant-loop-place l =
    (l.place ≤ length l.fn.self) × (l.self-inside.items.items ≡ l.fn.self)
    × (with_value l.name l.val l.fn.self ≡ with_value l.name l.val (take l.place l.fn.self) ++ drop l.place l.fn.self)

abbrev pub decreases-loop-place : goal.decreases-loop-place
decreases-loop-place l = l.place
