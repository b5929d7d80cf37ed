-- Regions, one span on.
use Rattle.std.proofs.Common.{◌≡◌, ◌<◌, ◌≤◌, ℕ, ◌+◌, Bool, true, false, cond, not, ◌&&◌, List, [], ◌∷◌, length, take, drop, get_or, ap, ◌∙◌, refl}
use Rattle.std.specs.Prelude.{if◌then◌else◌}
use Rattle.std.specs.List.{filter, list_any}
use Rattle.pt_case.specs.declared.span.Span.{Span}
use Rattle.pt_cand.specs.Region.{is_region, same_ends, regions_after}
use Rattle.pt_cand.proofs.EachLemmas.{once-seen, once-new, once-end}

module _ (spans : List Span) (i : ℕ) where
  abbrev rest : List Span
  rest = regions_after (take (i + 1) spans) (drop (i + 1) spans)

  step : (d : Span) → i < length spans → (region seen : Bool) → is_region (get_or spans i d) ≡ region →
      list_any (same_ends (get_or spans i d)) (take i spans) ≡ seen →
      regions_after (take i spans) (drop i spans) ≡ (if region && not seen then get_or spans i d ∷ rest else rest)
  step d within true true is was = ap (filter is_region) (once-seen same_ends spans i d within was)
  step d within true false is was =
      ap (filter is_region) (once-new same_ends spans i d within was) ∙ ap (λ b. cond b (get_or spans i d ∷ rest) rest) is
  step d within false true is was = ap (filter is_region) (once-seen same_ends spans i d within was)
  step d within false false is was =
      ap (filter is_region) (once-new same_ends spans i d within was) ∙ ap (λ b. cond b (get_or spans i d ∷ rest) rest) is

  -- whether it is a region of its own
  abbrev pub is_own : Span → Bool
  is_own span = is_region span && not (list_any (same_ends span) (take i spans))

  pub regions-own : (d : Span) → i < length spans → is_own (get_or spans i d) ≡ true →
      regions_after (take i spans) (drop i spans) ≡ get_or spans i d ∷ regions_after (take (i + 1) spans) (drop (i + 1) spans)
  regions-own d within own =
      step d within (is_region (get_or spans i d)) (list_any (same_ends (get_or spans i d)) (take i spans)) refl refl
      ∙ ap (λ b. if b then get_or spans i d ∷ rest else rest) own

  pub regions-passed : (d : Span) → i < length spans → is_own (get_or spans i d) ≡ false →
      regions_after (take i spans) (drop i spans) ≡ regions_after (take (i + 1) spans) (drop (i + 1) spans)
  regions-passed d within passed =
      step d within (is_region (get_or spans i d)) (list_any (same_ends (get_or spans i d)) (take i spans)) refl refl
      ∙ ap (λ b. if b then get_or spans i d ∷ rest else rest) passed

  pub regions-end : length spans ≤ i → regions_after (take i spans) (drop i spans) ≡ []
  regions-end past = ap (filter is_region) (once-end same_ends spans i past)
