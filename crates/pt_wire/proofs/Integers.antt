-- Integers in decimal digits, with a minus in front of those below 0.
use Rattle.std.proofs.Common.{◌≡◌, ℕ, zero, suc, ◌+◌, ◌-◌, ◌^◌, ◌<◌, ◌≤◌, ℤ, pos, negsuc, ◌-ℤ◌, SFits, to_z, of_z, List, [], ◌∷◌, ◌++◌, length, get_or, take, refl, sym, ap, ◌∙◌, arith, rules, add-one}
use Rattle.std.specs.Int.{w128}
use Rattle.std.specs.Fmt.{decimal}
use Rattle.std.proofs.lemmas.Fmt.{decimal_digit, decimal_nonempty, first_decimal}
use Rattle.std.proofs.lemmas.Int.{ints, to_z_pos, to_z-of_z}
use Rattle.pt_wire.specs.Spelling.{Begins, FailsAt}
use Rattle.pt_wire.specs.Printed.{PrintedInteger, PrintedNumber}
use Rattle.pt_wire.proofs.Decimals.{digit_within}
use Rattle.pt_wire.proofs.Failing.{fails_at_end, fails_here, fails_behind}

abbrev Number : ℕ → List ℕ → Type 0
Number = PrintedNumber (2 ^ 64 - 1)

-- the digits behind a minus
abbrev Positive : ℕ → List ℕ → Type 0
Positive number text = (text ≡ decimal number) × (0 < number) × (number ≤ 2 ^ 64 - 1)

number_nonempty : (number : ℕ) → number < 2 ^ 64 → [] ≡ decimal number → ⊥
number_nonempty number small e = let some = decimal_nonempty number small in omega (arith, ap length e)

pub integer_end : FailsAt PrintedInteger [] 0
integer_end = fails_at_end PrintedInteger (pos 0, decimal 0, (refl, omega arith)) none where
  none : (value : ℤ) → PrintedInteger value [] → ⊥
  none (pos n) (text, small) = number_nonempty n small text
  none (negsuc n) (text, small) = cc

-- without a minus an integer fails where a number does
pub plain_fails : (first : ℕ) (others : List ℕ) (place : ℕ) → (first ≡ 45 → ⊥) → FailsAt Number (first ∷ others) place → FailsAt PrintedInteger (first ∷ others) place
plain_fails first others place plain fails = record {
  none = none;
  within = fails.within;
  begun = (pos fails.begun.0, fails.begun.1, (fails.begun.2.0, let small = fails.begun.2.1 in omega arith));
  broken = λ lt more. broken lt more.0 more.1 more.2;
} where
  none : (value : ℤ) → PrintedInteger value (first ∷ others) → ⊥
  none (pos n) (text, small) = fails.none n (text, omega arith)
  none (negsuc n) (text, small) = plain cc

  broken : place < length (first ∷ others) → (value : ℤ) (more : List ℕ) → PrintedInteger value (take (place + 1) (first ∷ others) ++ more) → ⊥
  broken lt (pos n) more (text, small) = fails.broken lt (n, more, (text, omega arith))
  broken lt (negsuc n) more (text, small) =
      let cells : first ∷ (take place others ++ more) ≡ 45 ∷ decimal (suc n) = rw (add-one place) at text in
      plain cc

-- behind a minus
minus_behind : (digits : List ℕ) (place : ℕ) → FailsAt Positive digits place → FailsAt PrintedInteger (45 ∷ digits) (place + 1)
minus_behind digits place = fails_behind Positive PrintedInteger 45 digits place (λ number. negsuc (number - 1)) to from where
  to : (number : ℕ) (rest : List ℕ) → Positive number rest → PrintedInteger (negsuc (number - 1)) (45 ∷ rest)
  to number rest (text, some, small) = (ap (λ t. 45 ∷ t) (text ∙ ap decimal (omega arith)), omega arith)

  from : (value : ℤ) (rest : List ℕ) → PrintedInteger value (45 ∷ rest) → (number : ℕ) × Positive number rest
  from (pos n) rest (text, small) = let range = digit_within n 45 [] rest small (sym text) in absurd (omega arith)
  from (negsuc n) rest (text, small) = (suc n, (cc, omega arith, omega arith))

positive_begun : Begins Positive []
positive_begun = (1, decimal 1, (refl, omega arith, omega arith))

-- a minus alone
pub minus_alone : FailsAt PrintedInteger (45 ∷ []) 1
minus_alone = minus_behind [] 0 (fails_at_end Positive positive_begun (λ number h. number_nonempty number (omega (arith, h.2)) h.0))

-- a `0` first behind a minus
pub minus_zero : (digits : List ℕ) → FailsAt PrintedInteger (45 ∷ 48 ∷ digits) 1
minus_zero digits = minus_behind (48 ∷ digits) 0 (fails_here Positive 48 digits positive_begun none) where
  none : (number : ℕ) (rest : List ℕ) → Positive number (48 ∷ rest) → ⊥
  none number rest (text, some, small) =
      let first : 48 < get_or (decimal number) 0 0 = first_decimal number some (omega arith) in
      let is : get_or (decimal number) 0 0 ≡ 48 = ap (λ (ds : List ℕ). get_or ds 0 0) (sym text) in
      omega arith

-- behind a minus an integer fails where a number does
pub minus_fails : (leading : ℕ) (digits : List ℕ) (place : ℕ) → (leading ≡ 48 → ⊥) → FailsAt Number (leading ∷ digits) place → FailsAt PrintedInteger (45 ∷ leading ∷ digits) (place + 1)
minus_fails leading digits place apart fails = minus_behind (leading ∷ digits) place record {
  none = λ number h. fails.none number (h.0, h.2);
  within = fails.within;
  begun = begun place fails.begun.0 fails.begun.1 fails.begun.2;
  broken = λ lt more. fails.broken lt (more.0, more.1, (more.2.0, more.2.2));
} where
  begun : (n number : ℕ) (rest : List ℕ) → Number number (take n (leading ∷ digits) ++ rest) → Begins Positive (take n (leading ∷ digits))
  begun n (suc number) rest (text, small) = (suc number, rest, (text, omega arith, small))
  begun zero zero rest h = positive_begun
  begun (suc n) zero rest (text, small) =
      let cells : leading ∷ (take n digits ++ rest) ≡ 48 ∷ [] = text ∙ decimal_digit 0 (omega arith) in
      absurd (apart cc)

-- the integer behind a minus
pub minus_value : (number : ℕ) → 0 < number → number ≤ 2 ^ 64 - 1 → to_z w128 (of_z w128 (pos 0 -ℤ to_z w128 number)) ≡ negsuc (number - 1)
minus_value zero some small = absurd (omega arith)
minus_value (suc n) some small =
    let fits : SFits w128 (negsuc n) = search rules in
    let negated : pos 0 -ℤ pos (suc n) ≡ negsuc n = omega (arith, ints) in
    let back : n ≡ suc n - 1 = omega arith in
    ap (λ z. to_z w128 (of_z w128 (pos 0 -ℤ z))) (to_z_pos w128 (suc n) (omega arith)) ∙ ap (λ z. to_z w128 (of_z w128 z)) negated ∙ to_z-of_z w128 (negsuc n) fits ∙ ap negsuc back

pub minus_number : (leading : ℕ) (digits : List ℕ) (number : ℕ) → (leading ≡ 48 → ⊥) → Number number (leading ∷ digits)
    → PrintedInteger (to_z w128 (of_z w128 (pos 0 -ℤ to_z w128 number))) (45 ∷ leading ∷ digits)
minus_number leading digits zero apart (text, small) =
    let cells : leading ∷ digits ≡ 48 ∷ [] = text ∙ decimal_digit 0 (omega arith) in
    absurd (apart cc)
minus_number leading digits (suc n) apart (text, small) =
    let back : suc n - 1 ≡ n = omega arith in
    rw (minus_value (suc n) (omega arith) small, back) (ap (λ t. 45 ∷ t) text, omega arith)
