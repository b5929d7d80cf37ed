-- The lower integers and the lower lists, one further on.
use Rattle.std.proofs.Common.{◌≡◌, ◌<◌, ◌≤◌, ℕ, ◌+◌, ◌*◌, true, false, nat_eq, ℤ, pos, List, [], ◌∷◌, length, take, get_or, sym, ap, ◌∙◌, arith, ◌||◌}
use Rattle.std.specs.Cmp.Lexicographic.{pointwise}
use Rattle.std.specs.List.{list_any}
use Rattle.std.specs.Ordering.{int_eq}
use Rattle.std.proofs.lemmas.List.{length-take, get_or-take}
use Rattle.std.proofs.lemmas.List.Folds.{list_any_at, list_any_more}
use Rattle.pt_cand.specs.Left.{once_after}
use Rattle.pt_cand.specs.Lower.{lower_integers, lower_octets}
use Rattle.pt_cand.proofs.EachLemmas.{once-seen, once-new, once-end}
use Rattle.pt_cand.proofs.OctetLemmas.{length-numbered}

module _ (value : ℤ) (looked number : ℕ) where
  abbrev integers : List ℤ
  integers = value ∷ lower_integers value

  pub integer-new : (low : ℤ) → once_after int_eq integers looked ≡ once_after int_eq integers number → number < 4 →
      list_any (int_eq (get_or integers (number + 1) (pos 0))) (take (number + 1) integers) ≡ false → low ≡ get_or integers (number + 1) (pos 0) →
      once_after int_eq integers looked ≡ low ∷ once_after int_eq integers (number + 1)
  integer-new low so_far few unseen is =
      let within : number + 1 < length integers = omega (arith, few) in
      so_far ∙ once-new int_eq integers (number + 1) (pos 0) within unseen ∙ ap (λ x. x ∷ once_after int_eq integers (number + 1)) (sym is)

  pub integer-seen : once_after int_eq integers looked ≡ once_after int_eq integers number → number < 4 →
      list_any (int_eq (get_or integers (number + 1) (pos 0))) (take (number + 1) integers) ≡ true →
      once_after int_eq integers looked ≡ once_after int_eq integers (number + 1)
  integer-seen so_far few seen =
      let within : number + 1 < length integers = omega (arith, few) in
      so_far ∙ once-seen int_eq integers (number + 1) (pos 0) within seen

module _ (octets : List ℕ) (looked number : ℕ) where
  abbrev lists : List (List ℕ)
  lists = octets ∷ lower_octets octets

  pub list-new : (low : List ℕ) → once_after (pointwise nat_eq) lists looked ≡ once_after (pointwise nat_eq) lists number → number < 1 + 4 * length octets →
      list_any (pointwise nat_eq (get_or lists (number + 1) [])) (take (number + 1) lists) ≡ false → low ≡ get_or lists (number + 1) [] →
      once_after (pointwise nat_eq) lists looked ≡ low ∷ once_after (pointwise nat_eq) lists (number + 1)
  list-new low so_far few unseen is =
      let long = length-numbered octets in
      let within : number + 1 < length lists = omega (arith, few, long) in
      so_far ∙ once-new (pointwise nat_eq) lists (number + 1) [] within unseen ∙ ap (λ x. x ∷ once_after (pointwise nat_eq) lists (number + 1)) (sym is)

  pub list-seen : once_after (pointwise nat_eq) lists looked ≡ once_after (pointwise nat_eq) lists number → number < 1 + 4 * length octets →
      list_any (pointwise nat_eq (get_or lists (number + 1) [])) (take (number + 1) lists) ≡ true →
      once_after (pointwise nat_eq) lists looked ≡ once_after (pointwise nat_eq) lists (number + 1)
  list-seen so_far few seen =
      let long = length-numbered octets in
      let within : number + 1 < length lists = omega (arith, few, long) in
      so_far ∙ once-seen (pointwise nat_eq) lists (number + 1) [] within seen

  pub list-end : once_after (pointwise nat_eq) lists looked ≡ once_after (pointwise nat_eq) lists number → 1 + 4 * length octets ≤ number →
      once_after (pointwise nat_eq) lists looked ≡ []
  list-end so_far past =
      let long = length-numbered octets in
      so_far ∙ once-end (pointwise nat_eq) lists (number + 1) (omega (arith, past, long))

-- whether a list is one of those before it
module _ (octets low : List ℕ) (number earlier : ℕ) where
  abbrev listed : List (List ℕ)
  listed = octets ∷ lower_octets octets

  pub list-repeat : (other : List ℕ) → low ≡ get_or listed number [] → other ≡ get_or listed earlier [] → earlier < number → number < 2 + 4 * length octets →
      pointwise nat_eq low other ≡ true → list_any (pointwise nat_eq (get_or listed number [])) (take number listed) ≡ true
  list-repeat other is was before within same =
      let long = length-numbered octets in
      let inside : earlier < length (take number listed) = omega (arith, before, within, long, length-take number listed) in
      list_any_at (pointwise nat_eq (get_or listed number [])) (take number listed) earlier [] inside
      (ap (pointwise nat_eq (get_or listed number [])) (get_or-take number listed earlier [] before ∙ sym was) ∙ ap (λ l. pointwise nat_eq l other) (sym is) ∙ same)

  pub list-none : (other : List ℕ) → other ≡ get_or listed earlier [] → earlier < number → number < 2 + 4 * length octets →
      list_any (pointwise nat_eq low) (take earlier listed) ≡ false → pointwise nat_eq low other ≡ false → list_any (pointwise nat_eq low) (take (earlier + 1) listed) ≡ false
  list-none other was before within none other_ =
      let long = length-numbered octets in
      let inside : earlier < length listed = omega (arith, before, within, long) in
      list_any_more (pointwise nat_eq low) listed earlier [] inside
      ∙ ap (λ b. b || pointwise nat_eq low (get_or listed earlier [])) none ∙ ap (pointwise nat_eq low) (sym was) ∙ other_

  pub list-no_repeat : low ≡ get_or listed number [] → number ≤ earlier → earlier ≤ number → list_any (pointwise nat_eq low) (take earlier listed) ≡ false →
      list_any (pointwise nat_eq (get_or listed number [])) (take number listed) ≡ false
  list-no_repeat is most least none =
      let end : number ≡ earlier = omega (arith, most, least) in
      ap (λ l. list_any (pointwise nat_eq l) (take number listed)) (sym is) ∙ ap (λ n. list_any (pointwise nat_eq low) (take n listed)) end ∙ none
