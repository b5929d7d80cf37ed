-- A step of each pass at one place, and what it leaves of the whole.
use Rattle.std.proofs.Common.{◌≡◌, ◌<◌, ◌≤◌, ℕ, zero, suc, ◌+◌, ◌⊎◌, inl, inr, nat_eq, ◌&&◌, Bool, true, false, ℤ, Some, None, List, [], ◌∷◌, ◌++◌, map, length, take, drop, get_or, sym, ap, ◌∙◌, refl, arith, unsigned_abs, nat_lt}
use Rattle.std.specs.Prelude.{if◌then◌else◌}
use Rattle.std.specs.List.{find}
use Rattle.std.specs.Ordering.{int_eq}
use Rattle.std.specs.Cmp.Lexicographic.{pointwise}
use Rattle.std.proofs.lemmas.List.{length-take-le, length-drop, get_or-drop, get_or_default}
use Rattle.pt_choice.specs.declared.choice.Choice.{Choice}
use Rattle.pt_choice.specs.declared.choice.Choice.TheVariants as choice
use Rattle.pt_case.specs.declared.record.Record.{Record}
use Rattle.pt_case.specs.declared.span.Span.{Span}
use Rattle.pt_cand.specs.declared.cursor.Cursor.{Cursor}
use Rattle.pt_cand.specs.declared.edit.Change.{Change}
use Rattle.pt_cand.specs.declared.edit.Edit.TheVariants as edit
use Rattle.pt_cand.specs.declared.pass.Pass.TheVariants as pass
use Rattle.pt_cand.specs.Descend.{is_among, may_replace, descended, descend_at}
use Rattle.pt_cand.specs.Edit.{changed, changed_choice, edited, put_at}
use Rattle.pt_cand.specs.Left.{known_after, left_of, lower_after, descend_after, once_after}
use Rattle.pt_cand.specs.Lower.{lower, lower_integers, lower_octets, nearer}
use Rattle.pt_cand.specs.LowerDelete.{less_without}
use Rattle.pt_cand.specs.LowerOne.{replaced}
use Rattle.pt_cand.specs.Region.{regions, regions_after, without}
use Rattle.pt_cand.specs.SwapSiblings.{are_siblings, may_swap, swap_at, swap_with, swapped}
use Rattle.pt_cand.specs.Walk.{past, start_of}
use Rattle.pt_cand.proofs.EachLemmas.{at_each-more, left_at-found, left_at-none, left_at-same}
use Rattle.pt_cand.proofs.RegionLemmas.{is_own, regions-own, regions-passed}
use Rattle.pt_cand.proofs.StartLemmas.{lower_after-start, descend_after-start}
use Rattle.pt_cand.proofs.DescendLemmas.{known_at, descend-found, descend-passed, descend-end}
use Rattle.pt_cand.proofs.LessLemmas.{less-nothing, less-zero, less-end, less-found, less-seen, less-early, less-edited}

module _ (best : Record) (at : Cursor) where
  module _ (d : Span) (within : at.place < length best.spans) where
    abbrev here : Span
    here = get_or best.spans at.place d

    pub delete-found : is_own best.spans at.place here ≡ true →
        left_of pass.DeleteSpan best at ≡ edited best.choices (edit.Delete here) ∷ left_of pass.DeleteSpan best (start_of (at.place + 1))
    delete-found own = ap (map (without best.choices)) (regions-own best.spans at.place d within own)

    pub delete-passed : is_own best.spans at.place here ≡ false → left_of pass.DeleteSpan best at ≡ left_of pass.DeleteSpan best (start_of (at.place + 1))
    delete-passed passed = ap (map (without best.choices)) (regions-passed best.spans at.place d within passed)

    abbrev later : List Span
    later = drop (at.place + 1) best.spans

    swap-in : left_of pass.SwapSiblings best at ≡ swap_with best.choices here (find (are_siblings here) later) ++ left_of pass.SwapSiblings best (start_of (at.place + 1))
    swap-in = at_each-more (swap_at best.choices) best.spans at.place d within

    pub swap-alone : find (are_siblings here) later ≡ None → left_of pass.SwapSiblings best at ≡ left_of pass.SwapSiblings best (start_of (at.place + 1))
    swap-alone none = swap-in ∙ ap (λ o. swap_with best.choices here o ++ left_of pass.SwapSiblings best (start_of (at.place + 1))) none

    pub swap-found : (other : Span) → find (are_siblings here) later ≡ Some other → may_swap best.choices here other ≡ true →
        left_of pass.SwapSiblings best at ≡ edited best.choices (edit.Swap here other) ∷ left_of pass.SwapSiblings best (start_of (at.place + 1))
    swap-found other is may =
        swap-in ∙ ap (λ o. swap_with best.choices here o ++ left_of pass.SwapSiblings best (start_of (at.place + 1))) is
        ∙ ap (λ b. (if b then swapped best.choices here other ∷ [] else []) ++ left_of pass.SwapSiblings best (start_of (at.place + 1))) may

    pub swap-passed : (other : Span) → find (are_siblings here) later ≡ Some other → may_swap best.choices here other ≡ false →
        left_of pass.SwapSiblings best at ≡ left_of pass.SwapSiblings best (start_of (at.place + 1))
    swap-passed other is may =
        swap-in ∙ ap (λ o. swap_with best.choices here o ++ left_of pass.SwapSiblings best (start_of (at.place + 1))) is
        ∙ ap (λ b. (if b then swapped best.choices here other ∷ [] else []) ++ left_of pass.SwapSiblings best (start_of (at.place + 1))) may

    -- whether a later span is below this one, and may replace it
    abbrev pub goes_down : ℕ → Span → Bool
    goes_down inner span = may_replace here span && is_among (known_after (at.place ∷ []) (at.place + 1) (take inner later)) span.parent

    same-known : (inner : ℕ) (span : Span) →
        (may_replace here span && is_among (known_at (length (take at.place best.spans)) later d inner) span.parent) ≡ goes_down inner span
    same-known inner span =
        ap (λ n. may_replace here span && is_among (known_after (n ∷ []) (n + 1) (take inner later)) span.parent)
        (length-take-le at.place best.spans (omega (arith, within)))

    inner-within : (inner : ℕ) → at.place + 1 + inner < length best.spans → inner < length later
    inner-within inner low = let long = length-drop (at.place + 1) best.spans in omega (arith, low, long)

    inner-span : (inner : ℕ) → get_or later inner d ≡ get_or best.spans (at.place + 1 + inner) d
    inner-span inner = get_or-drop (at.place + 1) best.spans inner d

    pub goes-found : (inner : ℕ) → at.place + 1 + inner < length best.spans → goes_down inner (get_or best.spans (at.place + 1 + inner) d) ≡ true →
        left_of pass.Descend best (past at inner)
        ≡ edited best.choices (edit.Descend here (get_or best.spans (at.place + 1 + inner) d)) ∷ left_of pass.Descend best (past at (inner + 1))
    goes-found inner low down =
        left_at-found (descend_after best.choices inner) (descend_after best.choices (inner + 1)) (descend_at best.choices) best.spans at.place d
        (descended best.choices here (get_or later inner d)) within
        (descend-found best.choices (take at.place best.spans) here later inner d (inner-within inner low)
        (same-known inner (get_or later inner d) ∙ ap (λ span. goes_down inner span) (inner-span inner) ∙ down))
        ∙ ap (λ span. descended best.choices here span ∷ left_of pass.Descend best (past at (inner + 1))) (inner-span inner)

    pub goes-passed : (inner : ℕ) → at.place + 1 + inner < length best.spans → goes_down inner (get_or best.spans (at.place + 1 + inner) d) ≡ false →
        left_of pass.Descend best (past at inner) ≡ left_of pass.Descend best (past at (inner + 1))
    goes-passed inner low down =
        left_at-same (descend_after best.choices inner) (descend_after best.choices (inner + 1)) (descend_at best.choices) best.spans at.place d within
        (descend-passed best.choices (take at.place best.spans) here later inner d (inner-within inner low)
        (same-known inner (get_or later inner d) ∙ ap (λ span. goes_down inner span) (inner-span inner) ∙ down))

    pub goes-end : (inner : ℕ) → length best.spans ≤ at.place + 1 + inner → left_of pass.Descend best (past at inner) ≡ left_of pass.Descend best (start_of (at.place + 1))
    goes-end inner high =
        let long = length-drop (at.place + 1) best.spans in
        let end : length later ≤ inner = omega (arith, high, long) in
        left_at-none (descend_after best.choices inner) (descend_after best.choices 0) (descend_at best.choices) (descend_after-start best.choices) best.spans at.place d within
        (descend-end best.choices (take at.place best.spans) here later inner end)

  module _ (d : Choice) (within : at.place < length best.choices) where
    abbrev given : Choice
    given = get_or best.choices at.place d

    abbrev front : List Choice
    front = take at.place best.choices

    abbrev back : List Choice
    back = drop (at.place + 1) best.choices

    pub lower-found : (low : Choice) (inner : ℕ) → lower_after given at.inner ≡ low ∷ lower_after given inner →
        left_of pass.LowerOne best at ≡ put_at at.place low best.choices ∷ left_of pass.LowerOne best (past at inner)
    lower-found low inner is =
        left_at-found (λ front given back. replaced front back (lower_after given at.inner)) (λ front given back. replaced front back (lower_after given inner))
        (λ front given back. replaced front back (lower given)) best.choices at.place d (front ++ low ∷ back) within (ap (replaced front back) is)

    pub lower-none : lower_after given at.inner ≡ [] → left_of pass.LowerOne best at ≡ left_of pass.LowerOne best (start_of (at.place + 1))
    lower-none is =
        left_at-none (λ front given back. replaced front back (lower_after given at.inner)) (λ front given back. replaced front back (lower_after given 0))
        (λ front given back. replaced front back (lower given)) (λ front given back. ap (replaced front back) (lower_after-start given)) best.choices at.place d within
        (ap (replaced front back) is)

    -- a choice that is true becomes false
    pub lower-flag : given ≡ choice.Bool true → at.inner ≡ 0 →
        left_of pass.LowerOne best at ≡ edited best.choices (edit.Unset at.place) ∷ left_of pass.LowerOne best (past at 1)
    lower-flag is first =
        lower-found (choice.Bool false) 1
        (ap (λ g. lower_after g at.inner) is ∙ ap (λ n. drop n (choice.Bool false ∷ [])) first ∙ sym (ap (λ g. choice.Bool false ∷ lower_after g 1) is))

    flag-none : (value : Bool) (n : ℕ) → (value ≡ false) ⊎ (1 ≤ n) → lower_after (choice.Bool value) n ≡ []
    flag-none false zero end = refl
    flag-none false (suc n) end = refl
    flag-none true zero end = elim end [ inl is ↦ absurd cc | inr later ↦ absurd (omega (arith, later)) ]
    flag-none true (suc zero) end = refl
    flag-none true (suc (suc n)) end = refl

    pub lower-flag_none : (value : Bool) → given ≡ choice.Bool value → (value ≡ false) ⊎ (1 ≤ at.inner) →
        left_of pass.LowerOne best at ≡ left_of pass.LowerOne best (start_of (at.place + 1))
    lower-flag_none value is end = lower-none (ap (λ g. lower_after g at.inner) is ∙ flag-none value at.inner end)

    -- an integer
    abbrev integers : ℤ → ℕ → List ℤ
    integers value looked = once_after int_eq (value ∷ lower_integers value) looked

    pub lower-integer : (value : ℤ) → given ≡ choice.Int value → (low : ℤ) (inner : ℕ) → integers value at.inner ≡ low ∷ integers value inner →
        left_of pass.LowerOne best at ≡ edited best.choices (edit.Put at.place low) ∷ left_of pass.LowerOne best (past at inner)
    lower-integer value is low inner next =
        lower-found (choice.Int low) inner
        (ap (λ g. lower_after g at.inner) is ∙ ap (map (λ v. choice.Int v)) next ∙ sym (ap (λ g. choice.Int low ∷ lower_after g inner) is))

    pub lower-integer_none : (value : ℤ) → given ≡ choice.Int value → integers value at.inner ≡ [] →
        left_of pass.LowerOne best at ≡ left_of pass.LowerOne best (start_of (at.place + 1))
    lower-integer_none value is none = lower-none (ap (λ g. lower_after g at.inner) is ∙ ap (map (λ v. choice.Int v)) none)

    -- bytes or a text
    abbrev lists : List ℕ → ℕ → List (List ℕ)
    lists octets looked = once_after (pointwise nat_eq) (octets ∷ lower_octets octets) looked

    same-given : get_or best.choices at.place (choice.Bool false) ≡ given
    same-given = get_or_default best.choices at.place (choice.Bool false) d within

    pub lower-bytes : (octets : List ℕ) → given ≡ choice.Bytes octets → (change : Change) (inner : ℕ) → lists octets at.inner ≡ changed change octets ∷ lists octets inner →
        left_of pass.LowerOne best at ≡ edited best.choices (edit.Change at.place change) ∷ left_of pass.LowerOne best (past at inner)
    lower-bytes octets is change inner next =
        lower-found (choice.Bytes (changed change octets)) inner
        (ap (λ g. lower_after g at.inner) is ∙ ap (map (λ o. choice.Bytes o)) next ∙ sym (ap (λ g. choice.Bytes (changed change octets) ∷ lower_after g inner) is))
        ∙ ap (λ g. put_at at.place (changed_choice change g) best.choices ∷ left_of pass.LowerOne best (past at inner)) (sym (same-given ∙ is))

    pub lower-bytes_none : (octets : List ℕ) → given ≡ choice.Bytes octets → lists octets at.inner ≡ [] →
        left_of pass.LowerOne best at ≡ left_of pass.LowerOne best (start_of (at.place + 1))
    lower-bytes_none octets is none = lower-none (ap (λ g. lower_after g at.inner) is ∙ ap (map (λ o. choice.Bytes o)) none)

    pub lower-text : (octets : List ℕ) → given ≡ choice.Text octets → (change : Change) (inner : ℕ) → lists octets at.inner ≡ changed change octets ∷ lists octets inner →
        left_of pass.LowerOne best at ≡ edited best.choices (edit.Change at.place change) ∷ left_of pass.LowerOne best (past at inner)
    lower-text octets is change inner next =
        lower-found (choice.Text (changed change octets)) inner
        (ap (λ g. lower_after g at.inner) is ∙ ap (map (λ o. choice.Text o)) next ∙ sym (ap (λ g. choice.Text (changed change octets) ∷ lower_after g inner) is))
        ∙ ap (λ g. put_at at.place (changed_choice change g) best.choices ∷ left_of pass.LowerOne best (past at inner)) (sym (same-given ∙ is))

    pub lower-text_none : (octets : List ℕ) → given ≡ choice.Text octets → lists octets at.inner ≡ [] →
        left_of pass.LowerOne best at ≡ left_of pass.LowerOne best (start_of (at.place + 1))
    lower-text_none octets is none = lower-none (ap (λ g. lower_after g at.inner) is ∙ ap (map (λ o. choice.Text o)) none)

    abbrev less_after : ℕ → List Choice → Choice → List Choice → List (List Choice)
    less_after number = less_without (regions_after (take number best.spans) (drop number best.spans))

    -- nothing is made less at this place from here on
    less-none : (number : ℕ) → less_after number front given back ≡ [] →
        left_of pass.LowerDelete best (past at number) ≡ left_of pass.LowerDelete best (start_of (at.place + 1))
    less-none number is =
        left_at-none (less_after number) (less_after 0) (less_without (regions best.spans)) (λ front given back. refl) best.choices at.place d within is

    pub less-other : ((value : ℤ) → given ≡ choice.Int value → ⊥) → left_of pass.LowerDelete best at ≡ left_of pass.LowerDelete best (start_of (at.place + 1))
    less-other never = less-none at.inner (less-nothing (regions_after (take at.inner best.spans) (drop at.inner best.spans)) front given back never)

    module _ (value : ℤ) (is : given ≡ choice.Int value) where
      pub less-at_zero : nat_lt 0 (unsigned_abs value) ≡ false → left_of pass.LowerDelete best at ≡ left_of pass.LowerDelete best (start_of (at.place + 1))
      less-at_zero zero_ =
          less-none at.inner (ap (λ g. less_after at.inner front g back) is ∙ less-zero (regions_after (take at.inner best.spans) (drop at.inner best.spans)) front value back zero_)

      module _ (nonzero : nat_lt 0 (unsigned_abs value) ≡ true) where
        pub less-at_end : (number : ℕ) → length best.spans ≤ number →
            left_of pass.LowerDelete best (past at number) ≡ left_of pass.LowerDelete best (start_of (at.place + 1))
        less-at_end number end = less-none number (ap (λ g. less_after number front g back) is ∙ less-end best.spans front value back nonzero number end)

        front-length : length front ≡ at.place
        front-length = length-take-le at.place best.choices (omega (arith, within))

        pub less-at_seen : (number : ℕ) (e : Span) → number < length best.spans → is_own best.spans number (get_or best.spans number e) ≡ false →
            left_of pass.LowerDelete best (past at number) ≡ left_of pass.LowerDelete best (past at (number + 1))
        less-at_seen number e low seen =
            left_at-same (less_after number) (less_after (number + 1)) (less_without (regions best.spans)) best.choices at.place d within
            (ap (λ g. less_after number front g back) is ∙ less-seen best.spans front value back nonzero number e low seen
            ∙ sym (ap (λ g. less_after (number + 1) front g back) is))

        pub less-at_early : (number : ℕ) (e : Span) → number < length best.spans → nat_lt at.place (get_or best.spans number e).from ≡ false →
            left_of pass.LowerDelete best (past at number) ≡ left_of pass.LowerDelete best (past at (number + 1))
        less-at_early number e low early =
            left_at-same (less_after number) (less_after (number + 1)) (less_without (regions best.spans)) best.choices at.place d within
            (ap (λ g. less_after number front g back) is
            ∙ less-early best.spans front value back nonzero number e low (ap (λ n. nat_lt n (get_or best.spans number e).from) front-length ∙ early)
            ∙ sym (ap (λ g. less_after (number + 1) front g back) is))

        pub less-at_found : (number : ℕ) (e : Span) → number < length best.spans → at.place < (get_or best.spans number e).from →
            (get_or best.spans number e).from ≤ (get_or best.spans number e).to → nat_lt at.place (get_or best.spans number e).from ≡ true →
            is_own best.spans number (get_or best.spans number e) ≡ true →
            left_of pass.LowerDelete best (past at number)
            ≡ edited best.choices (edit.PutAndDelete at.place (nearer value 1) (get_or best.spans number e)) ∷ left_of pass.LowerDelete best (past at (number + 1))
        less-at_found number e low before order later own =
            left_at-found (less_after number) (less_after (number + 1)) (less_without (regions best.spans)) best.choices at.place d
            (without (front ++ choice.Int (nearer value 1) ∷ back) (get_or best.spans number e)) within
            (ap (λ g. less_after number front g back) is
            ∙ less-found best.spans front value back nonzero number e low (ap (λ n. nat_lt n (get_or best.spans number e).from) front-length ∙ later) own
            ∙ ap (λ lists. without (front ++ choice.Int (nearer value 1) ∷ back) (get_or best.spans number e) ∷ lists) (sym (ap (λ g. less_after (number + 1) front g back) is)))
            ∙ ap (λ list. list ∷ left_of pass.LowerDelete best (past at (number + 1)))
            (less-edited best.choices at.place (nearer value 1) (get_or best.spans number e) before order within)
