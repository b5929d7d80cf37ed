use Rattle.std.proofs.Common.{◌≡◌, ℕ, ◌<◌, get_or}
use Rattle.pt_cand.specs.Edit.{changed}
use Rattle.pt_cand.proofs.lower_octets.are_same.Given as goal

-- so far the two lists agree
abbrev pub invariant-loop-at : goal.invariant-loop-at
invariant-loop-at l = (k : ℕ) → k < l.at → get_or (changed l.one l.octets) k 0 ≡ get_or (changed l.other l.octets) k 0
