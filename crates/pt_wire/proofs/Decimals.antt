-- Decimal digits, read from the left.
use Rattle.std.proofs.Common.{◌≡◌, ℕ, zero, suc, ◌+◌, ◌*◌, ◌-◌, ◌/◌, ◌%◌, ◌^◌, ◌<◌, ◌≤◌, List, [], ◌∷◌, ◌++◌, length, get_or, take, Option, Some, None, IfSome, IfErr, ok_or, unwrap_or, refl, sym, ap, subst, ◌∙◌, append_assoc, arith, length-append}
use Rattle.std.specs.Fmt.{decimal}
use Rattle.std.specs.Str.Parse.{digits_value}
use Rattle.std.proofs.lemmas.List.{append-nil, get_or_at, take_at}
use Rattle.std.proofs.lemmas.Fmt.{decimal_is_IsNumeral, decimal_digit, decimal_nonempty, decimal_step, first_decimal}
use Rattle.std.proofs.lemmas.Int.Digits.{digits_value_push}
use Rattle.std.proofs.lemmas.Str.{digit_value_digit}
use Rattle.std.proofs.lemmas.Str.Parse.{digit_at, digits_value-take-le}
use Rattle.pt_wire.specs.Number.{digits_of}
use Rattle.pt_wire.specs.Printed.{PrintedNumber}
use Rattle.pt_wire.specs.Spelling.{Begins, FailsAt}
use Rattle.pt_wire.proofs.Failing.{fails_at_end, fails_front, fails_here}

-- a byte of a decimal text is a digit
pub digit_within : (number byte : ℕ) (front rest : List ℕ) → number < 2 ^ 64 → decimal number ≡ front ++ byte ∷ rest → (48 ≤ byte) × (byte ≤ 57)
digit_within number byte front rest small e =
    let digits = (decimal_is_IsNumeral number small).0.1 in
    let long : length front < length (decimal number) = omega (arith, ap length e, length-append front (byte ∷ rest)) in
    let is : get_or (decimal number) (length front) 0 ≡ byte = ap (λ (ds : List ℕ). get_or ds (length front) 0) e ∙ get_or_at front byte rest 0 (length front) refl in
    let range = digit_at (decimal number) (length front) digits long in
    (subst (λ b. 48 ≤ b) is range.0, subst (λ b. b ≤ 57) is range.1)

-- nothing stands behind a `0` that comes first
pub nothing_after_zero : (number byte : ℕ) (rest : List ℕ) → number < 2 ^ 64 → decimal number ≡ decimal 0 ++ byte ∷ rest → ⊥
nothing_after_zero zero byte rest small e = omega (arith, ap length e, length-append (decimal 0) (byte ∷ rest))
nothing_after_zero (suc n) byte rest small e =
    let first : 48 < get_or (decimal (suc n)) 0 0 = first_decimal (suc n) (omega arith) small in
    let is : get_or (decimal (suc n)) 0 0 ≡ 48 = ap (λ (ds : List ℕ). get_or ds 0 0) (e ∙ ap (λ ds. ds ++ byte ∷ rest) (decimal_digit 0 (omega arith))) in
    omega arith

-- a number is no less than its first digits
pub at_least_front : (number byte : ℕ) (front : Option ℕ) (rest : List ℕ) → number < 2 ^ 64 → IfSome front (λ value. value < 2 ^ 64) → decimal number ≡ digits_of front ++ byte ∷ rest
    → 10 * unwrap_or front 0 + (byte - 48) ≤ number
at_least_front number byte front rest small before e =
    let digits = digits_of front in
    let range = digit_within number byte digits rest small e in
    let whole : decimal number ≡ (digits ++ byte ∷ []) ++ rest = e ∙ sym (append_assoc digits (byte ∷ []) rest) in
    let cut : take (length (digits ++ byte ∷ [])) (decimal number) ≡ digits ++ byte ∷ [] = ap (take (length (digits ++ byte ∷ []))) whole ∙ take_at (digits ++ byte ∷ []) rest (length (digits ++ byte ∷ [])) refl in
    let less = digits_value-take-le 10 (decimal number) (length (digits ++ byte ∷ [])) (omega arith) in
    let less' : digits_value 10 (digits ++ byte ∷ []) ≤ digits_value 10 (decimal number) = subst (λ ds. digits_value 10 ds ≤ digits_value 10 (decimal number)) cut less in
    let is = (decimal_is_IsNumeral number small).1 in
    let one = digits_value_push 10 digits byte in
    let digit = digit_value_digit byte range in
    let value = front_value front before in
    omega arith where
      front_value : (front : Option ℕ) → IfSome front (λ value. value < 2 ^ 64) → digits_value 10 (digits_of front) ≡ unwrap_or front 0
      front_value None before = refl
      front_value (Some value) before = (decimal_is_IsNumeral value before).1

-- a number with one digit more at its end
pub decimal_more : (value digit : ℕ) → 0 < value → digit < 10 → 10 * value + digit < 2 ^ 64 → decimal (10 * value + digit) ≡ decimal value ++ (48 + digit) ∷ []
decimal_more value digit some small fits =
    let front : (10 * value + digit) / 10 ≡ value = omega arith in
    let last : (10 * value + digit) % 10 ≡ digit = omega arith in
    decimal_step (10 * value + digit) (omega arith) fits ∙ rw (front, last) refl

-- the same behind the digits that were read so far
pub digits_more : (front : Option ℕ) (digit : ℕ) → (front ≡ Some 0 → ⊥) → digit < 10 → 10 * unwrap_or front 0 + digit < 2 ^ 64
    → decimal (10 * unwrap_or front 0 + digit) ≡ digits_of front ++ (48 + digit) ∷ []
digits_more None digit apart small fits = ap decimal (omega arith) ∙ decimal_digit digit small
digits_more (Some zero) digit apart small fits = absurd (apart refl)
digits_more (Some (suc n)) digit apart small fits = decimal_more (suc n) digit (omega arith) small fits

-- a number fails at a digit that does not go on from those before it
pub number_fails : (most : ℕ) (number : Option ℕ) (byte : ℕ) (rest : List ℕ) → IfSome number (λ value. value ≤ most)
    → ((greater : ℕ) (more : List ℕ) → greater ≤ most → decimal greater ≡ digits_of number ++ byte ∷ more → ⊥)
    → FailsAt (PrintedNumber most) (digits_of number ++ byte ∷ rest) (length (digits_of number))
number_fails most number byte rest small broken =
    let front = digits_of number in
    subst (FailsAt (PrintedNumber most) (front ++ byte ∷ rest)) (omega arith)
    (fails_front (PrintedNumber most) front (byte ∷ rest) 0
    (fails_here (λ value text. PrintedNumber most value (front ++ text)) byte rest (begun number small) (λ value more h. broken value more h.1 (sym h.0)))) where
      begun : (number : Option ℕ) → IfSome number (λ value. value ≤ most) → Begins (λ value text. PrintedNumber most value (digits_of number ++ text)) []
      begun None small = (0, decimal 0, (refl, omega arith))
      begun (Some value) small = (value, [], (append-nil (decimal value), small))

-- a number fails where there are no digits
pub number_ends : (most : ℕ) (number : Option ℕ) (digits : List ℕ) → most < 2 ^ 64 → digits ≡ digits_of number → IfErr (ok_or number 0) (FailsAt (PrintedNumber most) digits)
number_ends most (Some value) digits small is = tt
number_ends most None digits small is = rw is (fails_at_end (PrintedNumber most) (0, decimal 0, (refl, omega arith)) none) where
  none : (value : ℕ) → PrintedNumber most value [] → ⊥
  none value (text, bound) = let some = decimal_nonempty value (omega arith) in omega (arith, ap length text)
