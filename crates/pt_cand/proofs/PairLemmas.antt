-- Two places that are moved together, one step on.
use Rattle.std.proofs.Common.{◌≡◌, ◌⊎◌, ◌<◌, ◌≤◌, ℕ, zero, suc, ◌+◌, ◌-◌, ℤ, Some, None, List, [], ◌∷◌, ◌++◌, map, length, take, drop, get_or, slice_get, sym, ap, ◌∙◌, refl, arith, inl, inr}
use Rattle.std.proofs.lemmas.List.{drop_more, drop_all, drop-take, drop-drop, length-drop, get_or-drop}
use Rattle.std.proofs.lemmas.Option.{slice_get_within, get_or_from_slice_get, slice_get-get_or}
use Rattle.std.proofs.lemmas.Bool.{cases_lt}
use Rattle.pt_choice.specs.declared.choice.Choice.{Choice}
use Rattle.pt_choice.specs.declared.choice.Choice.TheVariants as choice
use Rattle.pt_cand.specs.declared.cursor.Cursor.{Cursor}
use Rattle.pt_cand.specs.declared.edit.Edit.TheVariants as edit
use Rattle.pt_cand.specs.Edit.{edited}
use Rattle.pt_cand.specs.Moves.{in_places, with_later, of_integers, moves}
use Rattle.pt_cand.specs.Left.{later_after, pairs_left}
use Rattle.pt_cand.specs.Walk.{start_of}
use Rattle.pt_cand.proofs.EachLemmas.{left_at-empty, left_at-end, left_at-none, left_at-found, left_at-same}
use Rattle.pt_cand.proofs.StartLemmas.{later-start}

pub drop-get : {X : Type 0} (xs : List X) (n : ℕ) (x : X) → slice_get xs n ≡ Some x → drop n xs ≡ x ∷ drop (n + 1) xs
drop-get xs n x is = drop_more xs n x (slice_get_within xs n x is) ∙ ap (λ y. y ∷ drop (n + 1) xs) (get_or_from_slice_get xs n x x is)

pub drop-none : {X : Type 0} (xs : List X) (n : ℕ) (d : X) → slice_get xs n ≡ None → drop n xs ≡ []
drop-none xs n d is = elim (cases_lt n (length xs)) [
  | inl within ↦ let some = slice_get-get_or xs n d within in absurd cc
  | inr past ↦ drop_all n xs past
]

-- by 1, and by all of it
pub moves-past : (size slot : ℕ) → (2 ≤ slot) ⊎ (size ≤ slot) → slice_get (moves size) slot ≡ None
moves-past zero slot past = refl
moves-past (suc zero) zero past = elim past [ inl two ↦ absurd (omega (arith, two)) | inr few ↦ absurd (omega (arith, few)) ]
moves-past (suc zero) (suc slot) past = refl
moves-past (suc (suc size)) zero past = elim past [ inl two ↦ absurd (omega (arith, two)) | inr few ↦ absurd (omega (arith, few)) ]
moves-past (suc (suc size)) (suc zero) past = elim past [ inl two ↦ absurd (omega (arith, two)) | inr few ↦ absurd (omega (arith, few)) ]
moves-past (suc (suc size)) (suc (suc slot)) past = refl

pub moves-first : (size : ℕ) → 0 < size → slice_get (moves size) 0 ≡ Some 1
moves-first zero some = absurd (omega (arith, some))
moves-first (suc zero) some = refl
moves-first (suc (suc size)) some = refl

pub moves-second : (size : ℕ) → 1 < size → slice_get (moves size) 1 ≡ Some size
moves-second zero more = absurd (omega (arith, more))
moves-second (suc zero) more = absurd (omega (arith, more))
moves-second (suc (suc size)) more = refl

pub drop-empty : {X : Type 0} (n : ℕ) → drop {A = X} n [] ≡ []
drop-empty zero = refl
drop-empty (suc n) = refl

module _ (make : ℤ → ℤ → List (ℤ × ℤ)) where
  -- where the first choice is no integer, nothing is made
  nothing : (one : Choice) → ((value : ℤ) → one ≡ choice.Int value → ⊥) → (other : Choice) → of_integers make one other ≡ []
  nothing (choice.Int value) never other = absurd (never value refl)
  nothing (choice.Bool value) never other = refl
  nothing (choice.Bytes octets) never other = refl
  nothing (choice.Text octets) never other = refl

  abbrev at_one : List Choice → Choice → List Choice → Choice → List Choice → List (List Choice)
  at_one front one between other rest = map (in_places front between rest) (of_integers make one other)

  abbrev rest_of : ℕ → List Choice → Choice → List Choice → Choice → List Choice → List (List Choice)
  rest_of slot front one between other rest = map (in_places front between rest) (drop slot (of_integers make one other))

  no_more : (one : Choice) → ((value : ℤ) → one ≡ choice.Int value → ⊥) → (inner slot : ℕ) (front back : List Choice) → later_after make inner slot front one back ≡ []
  no_more one never inner slot front back =
      left_at-empty (rest_of slot front one) (at_one front one)
      (λ between other rest. ap (λ l. map (in_places front between rest) (drop slot l)) (nothing one never other) ∙ ap (map (in_places front between rest)) (drop-empty slot))
      (λ between other rest. ap (map (in_places front between rest)) (nothing one never other)) (take inner back) (drop inner back)

  module _ (choices : List Choice) (place : ℕ) (d : Choice) (within : place < length choices) where
    abbrev back : List Choice
    back = drop (place + 1) choices

    abbrev one : Choice
    one = get_or choices place d

    abbrev cursor_at : ℕ → ℕ → Cursor
    cursor_at inner slot = record { place = place; inner = inner; slot = slot }

    none_left : (inner slot : ℕ) → later_after make inner slot (take place choices) one back ≡ [] →
        pairs_left make choices (cursor_at inner slot) ≡ pairs_left make choices (start_of (place + 1))
    none_left inner slot is = left_at-none (later_after make inner slot) (later_after make 0 0) (with_later make) (later-start make) choices place d within is

    pub pairs-none : ((value : ℤ) → one ≡ choice.Int value → ⊥) → (inner slot : ℕ) →
        pairs_left make choices (cursor_at inner slot) ≡ pairs_left make choices (start_of (place + 1))
    pairs-none never inner slot = none_left inner slot (no_more one never inner slot (take place choices) back)

    pub pairs-end : (inner slot : ℕ) → length back ≤ inner → pairs_left make choices (cursor_at inner slot) ≡ pairs_left make choices (start_of (place + 1))
    pairs-end inner slot past = none_left inner slot (left_at-end (rest_of slot (take place choices) one) (at_one (take place choices) one) back inner past)

    pub pairs-passed : (inner slot : ℕ) → inner < length back → drop slot (of_integers make one (get_or back inner d)) ≡ [] →
        pairs_left make choices (cursor_at inner slot) ≡ pairs_left make choices (cursor_at (inner + 1) 0)
    pairs-passed inner slot later is =
        let front = take place choices in
        left_at-same (later_after make inner slot) (later_after make (inner + 1) 0) (with_later make) choices place d within
        (left_at-none (rest_of slot front one) (rest_of 0 front one) (at_one front one) (λ between other rest. refl) back inner d later
        (ap (map (in_places front (take inner back) (drop (inner + 1) back))) is))

    pub pairs-found : (inner slot : ℕ) (pair : ℤ × ℤ) → inner < length back →
        drop slot (of_integers make one (get_or back inner d)) ≡ pair ∷ drop (slot + 1) (of_integers make one (get_or back inner d)) →
        pairs_left make choices (cursor_at inner slot)
        ≡ in_places (take place choices) (take inner back) (drop (inner + 1) back) pair ∷ pairs_left make choices (cursor_at inner (slot + 1))
    pairs-found inner slot pair later is =
        let front = take place choices in
        let first = in_places front (take inner back) (drop (inner + 1) back) pair in
        left_at-found (later_after make inner slot) (later_after make inner (slot + 1)) (with_later make) choices place d first within
        (left_at-found (rest_of slot front one) (rest_of (slot + 1) front one) (at_one front one) back inner d first later
        (ap (map (in_places front (take inner back) (drop (inner + 1) back))) is))

    -- the list that the edit makes
    pub pair-edited : (inner : ℕ) (pair : ℤ × ℤ) →
        in_places (take place choices) (take inner back) (drop (inner + 1) back) pair
        ≡ edited choices (edit.PutBoth place pair.0 (place + 1 + inner) pair.1)
    pair-edited inner pair =
        let two : place + 1 + (inner + 1) ≡ place + 1 + inner + 1 = omega arith in
        ap (λ between. take place choices ++ choice.Int pair.0 ∷ between ++ choice.Int pair.1 ∷ drop (inner + 1) back) (sym (drop-take (place + 1) inner choices))
        ∙ ap (λ rest. take place choices ++ choice.Int pair.0 ∷ drop (place + 1) (take (place + 1 + inner) choices) ++ choice.Int pair.1 ∷ rest)
        (drop-drop (inner + 1) (place + 1) choices ∙ ap (λ n. drop n choices) two)

    abbrev second : ℕ → Choice
    second inner = get_or choices (place + 1 + inner) d

    inner-within : (inner : ℕ) → place + 1 + inner < length choices → inner < length back
    inner-within inner low = let long = length-drop (place + 1) choices in omega (arith, low, long)

    made-here : (inner : ℕ) (x y : ℤ) → one ≡ choice.Int x → second inner ≡ choice.Int y → of_integers make one (get_or back inner d) ≡ make x y
    made-here inner x y is later =
        ap (λ a. of_integers make a (get_or back inner d)) is ∙ ap (of_integers make (choice.Int x)) (get_or-drop (place + 1) choices inner d ∙ later)

    pub pairs-here : (inner slot : ℕ) (x y : ℤ) (pair : ℤ × ℤ) → one ≡ choice.Int x → second inner ≡ choice.Int y → place + 1 + inner < length choices →
        slice_get (make x y) slot ≡ Some pair →
        pairs_left make choices (cursor_at inner slot) ≡ edited choices (edit.PutBoth place pair.0 (place + 1 + inner) pair.1) ∷ pairs_left make choices (cursor_at inner (slot + 1))
    pairs-here inner slot x y pair is later low found =
        let made = made-here inner x y is later in
        pairs-found inner slot pair (inner-within inner low)
        (ap (drop slot) made ∙ drop-get (make x y) slot pair found ∙ ap (λ l. pair ∷ drop (slot + 1) l) (sym made))
        ∙ ap (λ list. list ∷ pairs_left make choices (cursor_at inner (slot + 1))) (pair-edited inner pair)

    pub pairs-over : (inner slot : ℕ) (x y : ℤ) → one ≡ choice.Int x → second inner ≡ choice.Int y → place + 1 + inner < length choices →
        slice_get (make x y) slot ≡ None → pairs_left make choices (cursor_at inner slot) ≡ pairs_left make choices (cursor_at (inner + 1) 0)
    pairs-over inner slot x y is later low none =
        pairs-passed inner slot (inner-within inner low) (ap (drop slot) (made-here inner x y is later) ∙ drop-none (make x y) slot (x, y) none)

    nothing_later : (x : ℤ) (other : Choice) → ((value : ℤ) → other ≡ choice.Int value → ⊥) → of_integers make (choice.Int x) other ≡ []
    nothing_later x (choice.Int value) never = absurd (never value refl)
    nothing_later x (choice.Bool value) never = refl
    nothing_later x (choice.Bytes octets) never = refl
    nothing_later x (choice.Text octets) never = refl

    pub pairs-other : (inner slot : ℕ) (x : ℤ) → one ≡ choice.Int x → ((value : ℤ) → second inner ≡ choice.Int value → ⊥) → place + 1 + inner < length choices →
        pairs_left make choices (cursor_at inner slot) ≡ pairs_left make choices (cursor_at (inner + 1) 0)
    pairs-other inner slot x is never low =
        pairs-passed inner slot (inner-within inner low)
        (ap (λ a. drop slot (of_integers make a (get_or back inner d))) is
        ∙ ap (λ b. drop slot (of_integers make (choice.Int x) b)) (get_or-drop (place + 1) choices inner d)
        ∙ ap (drop slot) (nothing_later x (second inner) never) ∙ drop-empty slot)

    pub pairs-past : (inner slot : ℕ) → length choices - (place + 1) ≤ inner → pairs_left make choices (cursor_at inner slot) ≡ pairs_left make choices (start_of (place + 1))
    pairs-past inner slot past = let long = length-drop (place + 1) choices in pairs-end inner slot (omega (arith, past, long))
