-- Two integers that are moved together.
use Rattle.std.specs.Prelude.{ℕ, zero, suc, min, ℤ, pos, negsuc, ◌+ℤ◌, ◌-ℤ◌, unsigned_abs, List, [], ◌∷◌, ◌++◌, map}
use Rattle.pt_choice.specs.declared.choice.Choice.{Choice}
use Rattle.pt_choice.specs.declared.choice.Choice.TheVariants as choice
use Rattle.pt_cand.specs.Each.{at_each}
use Rattle.pt_cand.specs.Lower.{nearer}

-- by 1, and by so much where that exceeds 1
abbrev pub moves : ℕ → List ℕ
moves zero = []
moves (suc zero) = 1 ∷ []
moves (suc (suc n)) = 1 ∷ suc (suc n) ∷ []

-- two integers, both moved toward zero by 1, and by the lesser magnitude
abbrev pub both_nearer : ℤ → ℤ → List (ℤ × ℤ)
both_nearer x y = map (λ move. (nearer x move, nearer y move)) (moves (min (unsigned_abs x) (unsigned_abs y)))

-- moved by so much the other way than the first integer moves toward zero
abbrev pub against : ℤ → ℤ → ℕ → ℤ
against (pos n) y move = y +ℤ pos move
against (negsuc n) y move = y -ℤ pos move

-- the first integer moved toward zero by 1, and by its magnitude, and the second one as much the other way
abbrev pub shifted : ℤ → ℤ → List (ℤ × ℤ)
shifted x y = map (λ move. (nearer x move, against x y move)) (moves (unsigned_abs x))

-- what is made of two choices that are integers
abbrev pub of_integers : (ℤ → ℤ → List (ℤ × ℤ)) → Choice → Choice → List (ℤ × ℤ)
of_integers make (choice.Int x) (choice.Int y) = make x y
of_integers make one other = []

-- two integers in their places
abbrev pub in_places : List Choice → List Choice → List Choice → (ℤ × ℤ) → List Choice
in_places front between rest pair = front ++ choice.Int pair.0 ∷ between ++ choice.Int pair.1 ∷ rest

-- what is made of a place and each later one
abbrev pub with_later : (ℤ → ℤ → List (ℤ × ℤ)) → List Choice → Choice → List Choice → List (List Choice)
with_later make front one back = at_each (λ between other rest. map (in_places front between rest) (of_integers make one other)) [] back

-- what is made of each two places
abbrev pub in_pairs : (ℤ → ℤ → List (ℤ × ℤ)) → List Choice → List (List Choice)
in_pairs make choices = at_each (with_later make) [] choices
