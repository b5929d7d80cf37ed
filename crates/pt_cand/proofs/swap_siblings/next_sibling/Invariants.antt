use Rattle.std.proofs.Common.{◌≡◌, drop}
use Rattle.std.specs.List.{find}
use Rattle.pt_cand.specs.SwapSiblings.{are_siblings}
use Rattle.pt_cand.proofs.swap_siblings.next_sibling.Given as goal

abbrev pub invariant-loop-other : goal.invariant-loop-other
invariant-loop-other l = find (are_siblings l.one) l.later ≡ find (are_siblings l.one) (drop l.other-index l.later)
