-- The decimal digits of the numbers of lines.
use Rattle.std.proofs.Common.{◌≡◌, ℕ, ◌+◌, ◌/◌, ◌%◌, ◌^◌, ◌<◌, ◌≤◌, true, List, [], ◌∷◌, ◌++◌, length, refl, ◌∙◌, ap, arith, length-append}
use Rattle.std.specs.List.{list_all}
use Rattle.std.specs.Fmt.{decimal}
use Rattle.std.proofs.lemmas.Fmt.{decimal_digit, decimal_step, decimal_by_steps, length-decimal-le}
use Rattle.std.proofs.lemmas.List.Folds.{list_all-append}
use Rattle.pt_val.specs.Name.{is_name, is_name_byte}

pub one_digit : (k : ℕ) → k < 10 → length (decimal k) ≡ 1
one_digit k small = ap length (decimal_digit k small)

longer : (k : ℕ) → 10 ≤ k → k < 1000 → length (decimal k) ≡ length (decimal (k / 10)) + 1
longer k large small = ap length (decimal_step k large (omega arith)) ∙ length-append (decimal (k / 10)) ((48 + k % 10) ∷ [])

pub two_digits : (k : ℕ) → 10 ≤ k → k < 100 → length (decimal k) ≡ 2
two_digits k large small = longer k large (omega arith) ∙ ap (λ n. n + 1) (one_digit (k / 10) (omega arith))

pub three_digits : (k : ℕ) → 100 ≤ k → k < 1000 → length (decimal k) ≡ 3
three_digits k large small = longer k (omega arith) small ∙ ap (λ n. n + 1) (two_digits (k / 10) (omega arith) (omega arith))

digit-name_byte : (digit : ℕ) → digit < 10 → is_name_byte (48 + digit) ≡ true
digit-name_byte digit small = grind arith

pub digits-name_bytes : (k : ℕ) → k < 2 ^ 64 → list_all is_name_byte (decimal k) ≡ true
digits-name_bytes k small = decimal_by_steps (λ n digits. list_all is_name_byte digits ≡ true) one more k small where
  one : (n : ℕ) → n < 10 → list_all is_name_byte ((48 + n) ∷ []) ≡ true
  one n low = rw (digit-name_byte n low) refl

  more : (n : ℕ) (digits : List ℕ) → 10 ≤ n → list_all is_name_byte digits ≡ true → list_all is_name_byte (digits ++ (48 + n % 10) ∷ []) ≡ true
  more n digits high front = list_all-append is_name_byte digits ((48 + n % 10) ∷ []) ∙ rw front (one (n % 10) (omega arith))

-- `p` and the number of a line is a name
pub p-name : (k : ℕ) → k < 200 → is_name (112 ∷ decimal k) ≡ true
p-name k small = rw (digits-name_bytes k (omega arith)) (grind (arith, length-decimal-le 3 k (omega arith) (omega arith) (omega arith)))
