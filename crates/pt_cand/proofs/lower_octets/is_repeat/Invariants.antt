use Rattle.std.proofs.Common.{◌≡◌, ◌∷◌, false, take, nat_eq}
use Rattle.std.specs.Cmp.Lexicographic.{pointwise}
use Rattle.std.specs.List.{list_any}
use Rattle.pt_cand.specs.Edit.{changed}
use Rattle.pt_cand.specs.Lower.{lower_octets}
use Rattle.pt_cand.proofs.lower_octets.is_repeat.Given as goal

-- none so far makes the same list
abbrev pub invariant-loop-earlier : goal.invariant-loop-earlier
invariant-loop-earlier l = list_any (pointwise nat_eq (changed l.change l.octets)) (take l.earlier (l.octets ∷ lower_octets l.octets)) ≡ false
