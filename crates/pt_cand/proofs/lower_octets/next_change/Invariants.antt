use Rattle.std.proofs.Common.{◌≡◌, ◌∷◌, nat_eq}
use Rattle.std.specs.Cmp.Lexicographic.{pointwise}
use Rattle.pt_cand.specs.Left.{once_after}
use Rattle.pt_cand.specs.Lower.{lower_octets}
use Rattle.pt_cand.proofs.lower_octets.next_change.Given as goal

abbrev pub invariant-loop-number : goal.invariant-loop-number
invariant-loop-number l =
    once_after (pointwise nat_eq) (l.octets ∷ lower_octets l.octets) l.looked ≡ once_after (pointwise nat_eq) (l.octets ∷ lower_octets l.octets) l.number
