-- Where a list is divided at one of its elements.
use Rattle.std.proofs.Common.{◌≡◌, ℕ, ◌+◌, ◌<◌, suc, List, [], ◌∷◌, ◌++◌, map, length, get_or, take, drop, sym, ◌∙◌, ap, drop-cons}
use Rattle.std.proofs.lemmas.List.{take_more, take-append-drop, map-append}

module _ {X : Type 0} (xs : List X) (k : ℕ) (x : X) (within : k < length xs) (is : x ≡ get_or xs k x) where
  pub split-at : xs ≡ take k xs ++ x ∷ drop (suc k) xs
  split-at = sym (take-append-drop k xs) ∙ ap (λ (l : List X). take k xs ++ l) (drop-cons xs k x within ∙ ap (λ (y : X). y ∷ drop (suc k) xs) (sym is))

  pub take-next : take (k + 1) xs ≡ take k xs ++ x ∷ []
  take-next = take_more xs k x within ∙ ap (λ (y : X). take k xs ++ y ∷ []) (sym is)

  module _ {Y : Type 0} (f : X → Y) where
    pub split-map : map f xs ≡ map f (take k xs) ++ f x ∷ map f (drop (suc k) xs)
    split-map = ap (map f) split-at ∙ map-append f (take k xs) (x ∷ drop (suc k) xs)

    pub map-next : map f (take (k + 1) xs) ≡ map f (take k xs) ++ f x ∷ []
    map-next = ap (map f) take-next ∙ map-append f (take k xs) (x ∷ [])

-- the elements so far, the next one, and the others
pub split-next : {X : Type 0} (all so_far : List X) (x : X) → so_far ≡ take (length so_far) all → length so_far < length all → x ≡ get_or all (length so_far) x →
    all ≡ so_far ++ x ∷ drop (suc (length so_far)) all
split-next {X} all so_far x first more is = split-at all (length so_far) x more is ∙ ap (λ (l : List X). l ++ x ∷ drop (suc (length so_far)) all) (sym first)
