-- How a bundle is found among others.
use Rattle.std.proofs.Common.{◌≡◌, ℕ, zero, suc, ◌==◌, ◌<◌, Bool, true, false, List, [], ◌∷◌, length, get_or, slice_set, ◌≤◌, refl, ap, arith}
use Rattle.std.specs.Prelude.{if◌then◌else◌}
use Rattle.std.specs.Cmp.Lexicographic.{pointwise}
use Rattle.pt_val.specs.declared.val.Val.{Val}
use Rattle.pt_strat.specs.declared.bundles.Bundle.{Bundle}
use Rattle.pt_strat.specs.Bundles.{place_of, with_entry, given_to}

-- the bundle of a name is at its place
pub given-at : (name : List ℕ) (value : Val) (bundles : List Bundle) (one : Bundle) → place_of name bundles < length bundles →
    one ≡ get_or bundles (place_of name bundles) one → slice_set bundles (place_of name bundles) (with_entry value one) ≡ given_to name value bundles
given-at name value [] one within is = absurd (omega (arith, within))
given-at name value (bundle ∷ others) one within is = split (given-at name value others one) (pointwise ◌==◌ name bundle.name) within is
  where
    split : (place_of name others < length others → one ≡ get_or others (place_of name others) one →
        slice_set others (place_of name others) (with_entry value one) ≡ given_to name value others) → (same : Bool) →
        (if same then 0 else suc (place_of name others)) < length (bundle ∷ others) →
        one ≡ get_or (bundle ∷ others) (if same then 0 else suc (place_of name others)) one →
        slice_set (bundle ∷ others) (if same then 0 else suc (place_of name others)) (with_entry value one)
        ≡ (if same then with_entry value bundle ∷ others else bundle ∷ given_to name value others)
    split further true within is = ap (λ b. with_entry value b ∷ others) is
    split further false within is = ap (λ bs. bundle ∷ bs) (further (omega (arith, within)) is)

pub given-none : (name : List ℕ) (value : Val) (bundles : List Bundle) → length bundles ≤ place_of name bundles → given_to name value bundles ≡ bundles
given-none name value [] past = refl
given-none name value (bundle ∷ others) past = split (given-none name value others) (pointwise ◌==◌ name bundle.name) past
  where
    split : (length others ≤ place_of name others → given_to name value others ≡ others) → (same : Bool) → length (bundle ∷ others) ≤ (if same then 0 else suc (place_of name others)) →
        (if same then with_entry value bundle ∷ others else bundle ∷ given_to name value others) ≡ bundle ∷ others
    split further true past = absurd (omega (arith, past))
    split further false past = ap (λ bs. bundle ∷ bs) (further (omega (arith, past)))

-- what is put back changes nothing
pub set-back : (bundles : List Bundle) (index : ℕ) (one : Bundle) → index < length bundles → one ≡ get_or bundles index one → slice_set bundles index one ≡ bundles
set-back [] index one within is = absurd (omega (arith, within))
set-back (bundle ∷ others) zero one within is = ap (λ b. b ∷ others) is
set-back (bundle ∷ others) (suc index) one within is = ap (λ bs. bundle ∷ bs) (set-back others index one (omega (arith, within)) is)
