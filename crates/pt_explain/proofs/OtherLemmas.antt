-- Each replacement once, one member on.
use Rattle.std.proofs.Common.{◌≡◌, ◌<◌, ℕ, ◌+◌, Bool, true, false, List, [], ◌∷◌, ◌++◌, take, drop, length, get_or, sym, ap, ◌∙◌, append_assoc}
use Rattle.std.specs.Prelude.{if◌then◌else◌}
use Rattle.std.specs.List.{list_any}
use Rattle.std.proofs.lemmas.List.{take_more, drop_more}
use Rattle.pt_cand.specs.Each.{each_once}

module _ {A : Type 0} (same : A → A → Bool) (given : A) (xs : List A) (i : ℕ) where
  abbrev once : Bool → A → List A
  once seen member =
      if seen then each_once same (given ∷ take i xs ++ member ∷ []) (drop (i + 1) xs)
      else member ∷ each_once same (given ∷ take i xs ++ member ∷ []) (drop (i + 1) xs)

  once-at : (d : A) → i < length xs → each_once same (given ∷ take i xs) (drop i xs) ≡ once (list_any (same (get_or xs i d)) (given ∷ take i xs)) (get_or xs i d)
  once-at d within = ap (λ back. each_once same (given ∷ take i xs) back) (drop_more xs i d within)

  pub once-seen : (d : A) (out all : List A) → i < length xs → list_any (same (get_or xs i d)) (given ∷ take i xs) ≡ true →
      out ++ each_once same (given ∷ take i xs) (drop i xs) ≡ all → out ++ each_once same (given ∷ take (i + 1) xs) (drop (i + 1) xs) ≡ all
  once-seen d out all within seen so_far =
      ap (λ front. out ++ each_once same (given ∷ front) (drop (i + 1) xs)) (take_more xs i d within)
      ∙ sym (ap (λ l. out ++ l) (once-at d within ∙ ap (λ b. once b (get_or xs i d)) seen)) ∙ so_far

  pub once-new : (d : A) (out all : List A) → i < length xs → list_any (same (get_or xs i d)) (given ∷ take i xs) ≡ false →
      out ++ each_once same (given ∷ take i xs) (drop i xs) ≡ all →
      (out ++ get_or xs i d ∷ []) ++ each_once same (given ∷ take (i + 1) xs) (drop (i + 1) xs) ≡ all
  once-new d out all within seen so_far =
      append_assoc out (get_or xs i d ∷ []) (each_once same (given ∷ take (i + 1) xs) (drop (i + 1) xs))
      ∙ ap (λ front. out ++ get_or xs i d ∷ each_once same (given ∷ front) (drop (i + 1) xs)) (take_more xs i d within)
      ∙ sym (ap (λ l. out ++ l) (once-at d within ∙ ap (λ b. once b (get_or xs i d)) seen)) ∙ so_far
