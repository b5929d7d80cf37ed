use Rattle.std.proofs.Common.{◌≡◌, ◌-◌, length}
use Rattle.pt_cand.specs.Left.{moved_by, pairs_left}
use Rattle.pt_cand.proofs.pairs.find_later.Given as goal

abbrev pub invariant-loop-inner : goal.invariant-loop-inner
invariant-loop-inner l =
    pairs_left (moved_by l.together) l.choices l.at
    ≡ pairs_left (moved_by l.together) l.choices (record { place = l.at.place; inner = l.inner; slot = l.slot })

abbrev pub decreases-loop-inner : goal.decreases-loop-inner
decreases-loop-inner l = length l.choices - l.inner
