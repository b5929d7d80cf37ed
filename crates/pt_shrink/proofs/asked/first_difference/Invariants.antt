use Rattle.std.proofs.Common.{◌≡◌, ◌<◌, ◌≤◌, ℕ, slice_get}
use Rattle.pt_shrink.proofs.asked.first_difference.Given as goal

-- the places so far are the same
abbrev pub invariant-loop-place : goal.invariant-loop-place
invariant-loop-place l = (k : ℕ) → l.from ≤ k → k < l.place → slice_get l.old k ≡ slice_get l.new k
