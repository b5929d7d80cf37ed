-- The lower choices that are tried in place of a choice.
use Rattle.std.specs.Prelude.{ℕ, ◌+◌, ◌-◌, ◌/◌, true, false, nat_eq, ℤ, pos, negsuc, neg_ℤ, unsigned_abs, int_div, List, [], ◌∷◌, ◌++◌, map, take, length}
use Rattle.std.specs.Ordering.{int_eq}
use Rattle.std.specs.Cmp.Lexicographic.{pointwise}
use Rattle.pt_choice.specs.declared.choice.Choice.{Choice}
use Rattle.pt_choice.specs.declared.choice.Choice.TheVariants as choice
use Rattle.pt_cand.specs.Each.{at_each, each_once}

-- moved toward zero by so much, and no further than zero
abbrev pub nearer : ℤ → ℕ → ℤ
nearer (pos n) move = pos (n - move)
nearer (negsuc n) move = neg_ℤ (pos (n + 1 - move))

-- zero, the magnitude, half, and one nearer to zero
abbrev pub lower_integers : ℤ → List ℤ
lower_integers value = pos 0 ∷ pos (unsigned_abs value) ∷ int_div value (pos 2) ∷ nearer value 1 ∷ []

-- one place removed, made zero, halved, and made one less
abbrev pub lower_place : List ℕ → ℕ → List ℕ → List (List ℕ)
lower_place front place back = (front ++ back) ∷ (front ++ 0 ∷ back) ∷ (front ++ place / 2 ∷ back) ∷ (front ++ (place - 1) ∷ back) ∷ []

-- the first half, and each place lowered by itself
abbrev pub lower_octets : List ℕ → List (List ℕ)
lower_octets octets = take (length octets / 2) octets ∷ at_each lower_place [] octets

-- the lower choices in order; the choice itself and repeats are left out
abbrev pub lower : Choice → List Choice
lower (choice.Bool false) = []
lower (choice.Bool true) = choice.Bool false ∷ []
lower (choice.Int value) = map (λ v. choice.Int v) (each_once int_eq (value ∷ []) (lower_integers value))
lower (choice.Bytes octets) = map (λ o. choice.Bytes o) (each_once (pointwise nat_eq) (octets ∷ []) (lower_octets octets))
lower (choice.Text octets) = map (λ o. choice.Text o) (each_once (pointwise nat_eq) (octets ∷ []) (lower_octets octets))
