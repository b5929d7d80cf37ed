use Rattle.std.proofs.Common.{◌≡◌, drop}
use Rattle.std.specs.Cmp.Lexicographic.{slice_cmp}
use Rattle.pt_choice.specs.Order.{cmp_choice}
use Rattle.pt_cand.specs.SwapSiblings.{swapped}
use Rattle.pt_cand.proofs.swap_siblings.is_lower.Given as goal

-- so far the two lists agree
abbrev pub invariant-loop-at : goal.invariant-loop-at
invariant-loop-at l =
    slice_cmp cmp_choice (swapped l.choices l.one l.other) l.choices ≡ slice_cmp cmp_choice (drop l.at (swapped l.choices l.one l.other)) (drop l.at l.choices)
