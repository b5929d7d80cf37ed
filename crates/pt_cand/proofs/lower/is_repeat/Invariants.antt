use Rattle.std.proofs.Common.{◌≡◌, ◌∷◌, false, take}
use Rattle.std.specs.Ordering.{int_eq}
use Rattle.std.specs.List.{list_any}
use Rattle.pt_cand.specs.Lower.{lower_integers}
use Rattle.pt_cand.proofs.lower.is_repeat.Given as goal

-- none so far is the same
abbrev pub invariant-loop-earlier : goal.invariant-loop-earlier
invariant-loop-earlier l = list_any (int_eq l.low) (take l.earlier (l.value ∷ lower_integers l.value)) ≡ false
