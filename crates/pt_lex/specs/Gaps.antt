-- What may stand between tokens.
use Rattle.std.specs.Prelude.{◌≡◌, ◌≢◌, ◌⊎◌, ℕ, ◌==◌, ◌||◌, Bool, true, false, List, [], ◌∷◌, ◌++◌}
use Rattle.std.specs.List.{AllByRecursion, flat_map}

-- a space, a tab, a carriage return or a line feed
abbrev pub is_blank : ℕ → Bool
is_blank char = char == 32 || char == 9 || char == 13 || char == 10

abbrev pub IsBlank : List ℕ → Type 0
IsBlank text = (char : ℕ) × (is_blank char ≡ true) × (text ≡ char ∷ [])

-- `#` and what stands behind it in its line
abbrev pub IsRemark : List ℕ → Type 0
IsRemark text = (body : List ℕ) × AllByRecursion (λ char. char ≢ 10) body × (text ≡ 35 ∷ body)

-- a comment ends at its line feed
abbrev pub IsComment : List ℕ → Type 0
IsComment text = (remark : List ℕ) × IsRemark remark × (text ≡ remark ++ 10 ∷ [])

-- what may stand before a token: blanks and comments
abbrev pub IsGap : List ℕ → Type 0
IsGap text = (pieces : List (List ℕ)) × AllByRecursion (λ piece. IsBlank piece ⊎ IsComment piece) pieces × (text ≡ flat_map (λ piece. piece) pieces)

-- what may stand before the end of the text: the last comment needs no line feed
abbrev pub IsLastGap : List ℕ → Type 0
IsLastGap text = IsGap text ⊎ ((gap remark : List ℕ) × IsGap gap × IsRemark remark × (text ≡ gap ++ remark))

-- something stands there, and neither a blank nor a comment
abbrev pub IsPastGap : List ℕ → Type 0
IsPastGap [] = ⊥
IsPastGap (char ∷ text) = (is_blank char ≡ false) × (char ≢ 35)
