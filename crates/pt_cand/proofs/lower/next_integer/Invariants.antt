use Rattle.std.proofs.Common.{◌≡◌, ◌∷◌}
use Rattle.std.specs.Ordering.{int_eq}
use Rattle.pt_cand.specs.Left.{once_after}
use Rattle.pt_cand.specs.Lower.{lower_integers}
use Rattle.pt_cand.proofs.lower.next_integer.Given as goal

abbrev pub invariant-loop-number : goal.invariant-loop-number
invariant-loop-number l = once_after int_eq (l.value ∷ lower_integers l.value) l.looked ≡ once_after int_eq (l.value ∷ lower_integers l.value) l.number
