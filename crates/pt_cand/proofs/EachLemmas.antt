-- What is made of each member, one step on.
use Rattle.std.proofs.Common.{◌≡◌, ◌<◌, ◌≤◌, ℕ, ◌+◌, Bool, true, false, List, [], ◌∷◌, ◌++◌, length, take, drop, get_or, sym, ap, ◌∙◌, refl}
use Rattle.std.specs.Prelude.{if◌then◌else◌}
use Rattle.std.specs.List.{list_any}
use Rattle.std.proofs.lemmas.List.{take_more, drop_more, drop_all}
use Rattle.pt_cand.specs.Each.{at_each, each_once}
use Rattle.pt_cand.specs.Left.{left_at}

module _ {A B : Type 0} (make : List A → A → List A → List B) (xs : List A) (i : ℕ) where
  pub at_each-more : (d : A) → i < length xs →
      at_each make (take i xs) (drop i xs) ≡ make (take i xs) (get_or xs i d) (drop (i + 1) xs) ++ at_each make (take (i + 1) xs) (drop (i + 1) xs)
  at_each-more d within =
      ap (λ back. at_each make (take i xs) back) (drop_more xs i d within)
      ∙ ap (λ front. make (take i xs) (get_or xs i d) (drop (i + 1) xs) ++ at_each make front (drop (i + 1) xs)) (sym (take_more xs i d within))

  pub at_each-end : length xs ≤ i → at_each make (take i xs) (drop i xs) ≡ []
  at_each-end past = ap (λ back. at_each make (take i xs) back) (drop_all i xs past)

pub at_each-empty : {A B : Type 0} (make : List A → A → List A → List B) → ((front : List A) (member : A) (back : List A) → make front member back ≡ []) →
    (front back : List A) → at_each make front back ≡ []
at_each-empty make empty front [] = refl
at_each-empty make empty front (member ∷ back) =
    ap (λ l. l ++ at_each make (front ++ member ∷ []) back) (empty front member back) ∙ at_each-empty make empty (front ++ member ∷ []) back

pub left_at-empty : {A B : Type 0} (left make : List A → A → List A → List B) → ((front : List A) (member : A) (back : List A) → left front member back ≡ []) →
    ((front : List A) (member : A) (back : List A) → make front member back ≡ []) → (front back : List A) → left_at left make front back ≡ []
left_at-empty left make nothing empty front [] = refl
left_at-empty left make nothing empty front (member ∷ back) =
    ap (λ l. l ++ at_each make (front ++ member ∷ []) back) (nothing front member back) ∙ at_each-empty make empty (front ++ member ∷ []) back

module _ {A B : Type 0} (left make : List A → A → List A → List B) where
  pub left_at-start : ((front : List A) (member : A) (back : List A) → left front member back ≡ make front member back) →
      (front back : List A) → left_at left make front back ≡ at_each make front back
  left_at-start same front [] = refl
  left_at-start same front (member ∷ back) = ap (λ l. l ++ at_each make (front ++ member ∷ []) back) (same front member back)

  module _ (xs : List A) (i : ℕ) where
    pub left_at-in : (d : A) → i < length xs →
        left_at left make (take i xs) (drop i xs) ≡ left (take i xs) (get_or xs i d) (drop (i + 1) xs) ++ at_each make (take (i + 1) xs) (drop (i + 1) xs)
    left_at-in d within =
        ap (λ back. left_at left make (take i xs) back) (drop_more xs i d within)
        ∙ ap (λ front. left (take i xs) (get_or xs i d) (drop (i + 1) xs) ++ at_each make front (drop (i + 1) xs)) (sym (take_more xs i d within))

    pub left_at-end : length xs ≤ i → left_at left make (take i xs) (drop i xs) ≡ []
    left_at-end past = ap (λ back. left_at left make (take i xs) back) (drop_all i xs past)

-- the first of what is left at a place is handed out
pub left_at-found : {A B : Type 0} (left later make : List A → A → List A → List B) (xs : List A) (i : ℕ) (d : A) (first : B) → i < length xs →
    left (take i xs) (get_or xs i d) (drop (i + 1) xs) ≡ first ∷ later (take i xs) (get_or xs i d) (drop (i + 1) xs) →
    left_at left make (take i xs) (drop i xs) ≡ first ∷ left_at later make (take i xs) (drop i xs)
left_at-found left later make xs i d first within is =
    left_at-in left make xs i d within
    ∙ ap (λ l. l ++ at_each make (take (i + 1) xs) (drop (i + 1) xs)) is
    ∙ ap (λ l. first ∷ l) (sym (left_at-in later make xs i d within))

-- what is left at a place is as much, seen from further on
pub left_at-same : {A B : Type 0} (left later make : List A → A → List A → List B) (xs : List A) (i : ℕ) (d : A) → i < length xs →
    left (take i xs) (get_or xs i d) (drop (i + 1) xs) ≡ later (take i xs) (get_or xs i d) (drop (i + 1) xs) →
    left_at left make (take i xs) (drop i xs) ≡ left_at later make (take i xs) (drop i xs)
left_at-same left later make xs i d within is =
    left_at-in left make xs i d within
    ∙ ap (λ l. l ++ at_each make (take (i + 1) xs) (drop (i + 1) xs)) is
    ∙ sym (left_at-in later make xs i d within)

-- nothing is left at a place
pub left_at-none : {A B : Type 0} (left start make : List A → A → List A → List B) → ((front : List A) (member : A) (back : List A) → start front member back ≡ make front member back) →
    (xs : List A) (i : ℕ) (d : A) → i < length xs → left (take i xs) (get_or xs i d) (drop (i + 1) xs) ≡ [] →
    left_at left make (take i xs) (drop i xs) ≡ left_at start make (take (i + 1) xs) (drop (i + 1) xs)
left_at-none left start make same xs i d within is =
    left_at-in left make xs i d within
    ∙ ap (λ l. l ++ at_each make (take (i + 1) xs) (drop (i + 1) xs)) is
    ∙ sym (left_at-start start make same (take (i + 1) xs) (drop (i + 1) xs))

-- each member once, one member on
module _ {A : Type 0} (same : A → A → Bool) (xs : List A) (i : ℕ) where
  abbrev once : Bool → A → List A
  once seen member =
      if seen then each_once same (take i xs ++ member ∷ []) (drop (i + 1) xs) else member ∷ each_once same (take i xs ++ member ∷ []) (drop (i + 1) xs)

  once-at : (d : A) → i < length xs → each_once same (take i xs) (drop i xs) ≡ once (list_any (same (get_or xs i d)) (take i xs)) (get_or xs i d)
  once-at d within = ap (λ back. each_once same (take i xs) back) (drop_more xs i d within)

  pub once-seen : (d : A) → i < length xs → list_any (same (get_or xs i d)) (take i xs) ≡ true →
      each_once same (take i xs) (drop i xs) ≡ each_once same (take (i + 1) xs) (drop (i + 1) xs)
  once-seen d within seen =
      once-at d within ∙ ap (λ b. once b (get_or xs i d)) seen
      ∙ ap (λ front. each_once same front (drop (i + 1) xs)) (sym (take_more xs i d within))

  pub once-new : (d : A) → i < length xs → list_any (same (get_or xs i d)) (take i xs) ≡ false →
      each_once same (take i xs) (drop i xs) ≡ get_or xs i d ∷ each_once same (take (i + 1) xs) (drop (i + 1) xs)
  once-new d within unseen =
      once-at d within ∙ ap (λ b. once b (get_or xs i d)) unseen
      ∙ ap (λ front. get_or xs i d ∷ each_once same front (drop (i + 1) xs)) (sym (take_more xs i d within))

  pub once-end : length xs ≤ i → each_once same (take i xs) (drop i xs) ≡ []
  once-end past = ap (λ back. each_once same (take i xs) back) (drop_all i xs past)
