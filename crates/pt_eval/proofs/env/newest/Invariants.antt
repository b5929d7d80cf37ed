use Rattle.std.proofs.Common.{◌≡◌, ◌≤◌, length, take}
use Rattle.pt_eval.specs.Env.{value_in}
use Rattle.pt_eval.proofs.env.newest.Given as goal

-- the name is none of those behind the place
abbrev pub invariant-loop-place : goal.invariant-loop-place
invariant-loop-place l = (l.place ≤ length l.bindings) × (value_in l.name l.bindings ≡ value_in l.name (take l.place l.bindings))

abbrev pub decreases-loop-place : goal.decreases-loop-place
decreases-loop-place l = l.place
