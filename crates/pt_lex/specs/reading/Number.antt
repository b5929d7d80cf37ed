-- Numbers and minus signs, read from the left.
use Rattle.std.specs.Prelude.{ℕ, ◌+◌, ◌*◌, ◌-◌, ◌==◌, Bool, false, if◌then◌else◌, List, [], ◌∷◌, min}
use Rattle.pt_val.specs.Name.{is_digit}
use Rattle.pt_token.specs.declared.token.Kind.{Kind}
use Rattle.pt_token.specs.declared.token.Kind.TheVariants as kind
use Rattle.pt_lex.specs.Numbers.{most_number}
use Rattle.pt_lex.specs.reading.Gap.{gap_on}

abbrev pub digits_on : ℕ → List ℕ → ℕ × List ℕ
digits_on kept [] = (kept, [])
digits_on kept (digit ∷ digits) =
    if is_digit digit then digits_on (min (min (kept * 10) most_number + (digit - 48)) most_number) digits else (kept, digit ∷ digits)

abbrev pub number_token : List ℕ → Kind × List ℕ
number_token [] = (kind.Number 0, [])
number_token (first ∷ rest) = if first == 48 then (kind.Number 0, rest) else (kind.Number (digits_on 0 (first ∷ rest)).0, (digits_on 0 (first ∷ rest)).1)

abbrev pub starts_digit : List ℕ → Bool
starts_digit [] = false
starts_digit (char ∷ text) = is_digit char

-- whether a number is the next token
abbrev pub number_follows : List ℕ → Bool
number_follows text = starts_digit (gap_on false text)

unfoldable pub minus_token : List ℕ → Kind × List ℕ
minus_token text = (kind.Minus (number_follows text), text)
