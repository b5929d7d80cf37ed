-- An integer made one less and a region behind it left out, one span on.
use Rattle.std.proofs.Common.{◌≡◌, ◌<◌, ◌≤◌, ℕ, zero, suc, ◌+◌, Bool, true, false, cond, ℤ, List, [], ◌∷◌, ◌++◌, map, length, take, drop, get_or, sym, ap, ◌∙◌, refl, subst, arith, add-one, unsigned_abs, nat_lt}
use Rattle.std.specs.Prelude.{if◌then◌else◌}
use Rattle.std.specs.List.{filter}
use Rattle.pt_choice.specs.declared.choice.Choice.{Choice}
use Rattle.pt_choice.specs.declared.choice.Choice.TheVariants as choice
use Rattle.pt_case.specs.declared.span.Span.{Span}
use Rattle.pt_cand.specs.declared.edit.Edit.TheVariants as edit
use Rattle.pt_cand.specs.Edit.{edited}
use Rattle.pt_cand.specs.Lower.{nearer}
use Rattle.pt_cand.specs.LowerDelete.{begins_after, less_without}
use Rattle.pt_cand.specs.Region.{regions_after, without}
use Rattle.pt_cand.proofs.RegionLemmas.{is_own, regions-own, regions-passed, regions-end}

-- only an integer that is not zero is made less
pub less-nothing : (spans : List Span) (front : List Choice) (given : Choice) (back : List Choice) → ((value : ℤ) → given ≡ choice.Int value → ⊥) →
    less_without spans front given back ≡ []
less-nothing spans front (choice.Int value) back never = absurd (never value refl)
less-nothing spans front (choice.Bool value) back never = refl
less-nothing spans front (choice.Bytes octets) back never = refl
less-nothing spans front (choice.Text octets) back never = refl

pub less-zero : (spans : List Span) (front : List Choice) (value : ℤ) (back : List Choice) → nat_lt 0 (unsigned_abs value) ≡ false →
    less_without spans front (choice.Int value) back ≡ []
less-zero spans front value back zero_ =
    ap (λ b. map (without (front ++ choice.Int (nearer value 1) ∷ back)) (if b then filter (begins_after (length front)) spans else [])) zero_

module _ (spans : List Span) (front : List Choice) (value : ℤ) (back : List Choice) (nonzero : nat_lt 0 (unsigned_abs value) ≡ true) where
  abbrev lessened : List Choice
  lessened = front ++ choice.Int (nearer value 1) ∷ back

  abbrev behind : List Span → List (List Choice)
  behind regions = map (without lessened) (filter (begins_after (length front)) regions)

  abbrev left : ℕ → List (List Choice)
  left number = less_without (regions_after (take number spans) (drop number spans)) front (choice.Int value) back

  is_behind : (number : ℕ) → left number ≡ behind (regions_after (take number spans) (drop number spans))
  is_behind number =
      ap (λ b. map (without lessened) (if b then filter (begins_after (length front)) (regions_after (take number spans) (drop number spans)) else [])) nonzero

  pub less-end : (number : ℕ) → length spans ≤ number → left number ≡ []
  less-end number past = is_behind number ∙ ap behind (regions-end spans number past)

  pub less-found : (number : ℕ) (d : Span) → number < length spans → nat_lt (length front) (get_or spans number d).from ≡ true → is_own spans number (get_or spans number d) ≡ true →
      left number ≡ without lessened (get_or spans number d) ∷ left (number + 1)
  less-found number d within later own =
      is_behind number ∙ ap behind (regions-own spans number d within own)
      ∙ ap (λ b. map (without lessened) (cond b (get_or spans number d ∷ filter (begins_after (length front)) (regions_after (take (number + 1) spans) (drop (number + 1) spans)))
      (filter (begins_after (length front)) (regions_after (take (number + 1) spans) (drop (number + 1) spans))))) later
      ∙ ap (λ lists. without lessened (get_or spans number d) ∷ lists) (sym (is_behind (number + 1)))

  pub less-seen : (number : ℕ) (d : Span) → number < length spans → is_own spans number (get_or spans number d) ≡ false → left number ≡ left (number + 1)
  less-seen number d within passed = is_behind number ∙ ap behind (regions-passed spans number d within passed) ∙ sym (is_behind (number + 1))

  by_own : (number : ℕ) (d : Span) → number < length spans → nat_lt (length front) (get_or spans number d).from ≡ false → (own : Bool) → is_own spans number (get_or spans number d) ≡ own →
      left number ≡ left (number + 1)
  by_own number d within early true is =
      is_behind number ∙ ap behind (regions-own spans number d within is)
      ∙ ap (λ b. map (without lessened) (cond b (get_or spans number d ∷ filter (begins_after (length front)) (regions_after (take (number + 1) spans) (drop (number + 1) spans)))
      (filter (begins_after (length front)) (regions_after (take (number + 1) spans) (drop (number + 1) spans))))) early
      ∙ sym (is_behind (number + 1))
  by_own number d within early false is = less-seen number d within is

  pub less-early : (number : ℕ) (d : Span) → number < length spans → nat_lt (length front) (get_or spans number d).from ≡ false → left number ≡ left (number + 1)
  less-early number d within early = by_own number d within early (is_own spans number (get_or spans number d)) refl

-- a choice put in a place, and a region behind it left out
put-take : (choices : List Choice) (choice : Choice) (place from : ℕ) → place < from → place < length choices →
    take from (take place choices ++ choice ∷ drop (suc place) choices) ≡ take place choices ++ choice ∷ drop (suc place) (take from choices)
put-take [] choice place from before within = absurd (omega (arith, within))
put-take (first ∷ choices) choice zero zero before within = absurd (omega (arith, before))
put-take (first ∷ choices) choice zero (suc from) before within = refl
put-take (first ∷ choices) choice (suc place) zero before within = absurd (omega (arith, before))
put-take (first ∷ choices) choice (suc place) (suc from) before within =
    ap (λ l. first ∷ l) (put-take choices choice place from (omega (arith, before)) (omega (arith, within)))

put-drop : (choices : List Choice) (choice : Choice) (place to : ℕ) → place < to → place < length choices →
    drop to (take place choices ++ choice ∷ drop (suc place) choices) ≡ drop to choices
put-drop [] choice place to before within = absurd (omega (arith, within))
put-drop (first ∷ choices) choice zero zero before within = absurd (omega (arith, before))
put-drop (first ∷ choices) choice zero (suc to) before within = refl
put-drop (first ∷ choices) choice (suc place) zero before within = absurd (omega (arith, before))
put-drop (first ∷ choices) choice (suc place) (suc to) before within = put-drop choices choice place to (omega (arith, before)) (omega (arith, within))

pub less-edited : (choices : List Choice) (place : ℕ) (value : ℤ) (span : Span) → place < span.from → span.from ≤ span.to → place < length choices →
    without (take place choices ++ choice.Int value ∷ drop (place + 1) choices) span ≡ edited choices (edit.PutAndDelete place value span)
less-edited choices place value span before order within =
    let P : ℕ → Type 0 = λ n. without (take place choices ++ choice.Int value ∷ drop n choices) span
    ≡ take place choices ++ choice.Int value ∷ drop n (take span.from choices) ++ drop span.to choices in
    subst P (sym (add-one place))
    (ap (λ l. l ++ drop span.to (take place choices ++ choice.Int value ∷ drop (suc place) choices)) (put-take choices (choice.Int value) place span.from before within)
    ∙ ap (λ l. take place choices ++ choice.Int value ∷ drop (suc place) (take span.from choices) ++ l) (put-drop choices (choice.Int value) place span.to (omega (arith, before, order)) within))
