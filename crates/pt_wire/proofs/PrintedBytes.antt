-- Bytes as two hexadecimal digits.
use Rattle.std.proofs.Common.{◌≡◌, ℕ, ◌+◌, ◌*◌, ◌/◌, ◌%◌, ◌<◌, false, List, [], ◌∷◌, ◌++◌, refl, sym, ap, ◌∙◌, arith}
use Rattle.std.specs.Fmt.{digit_glyph}
use Rattle.std.proofs.lemmas.Bool.Decides.{nat_tests}
use Rattle.pt_wire.specs.Spelling.{Begins, FailsAt, StartsWith}
use Rattle.pt_wire.specs.Printed.{PrintedByte}
use Rattle.pt_wire.proofs.Chains.{IsPrefixFree}
use Rattle.pt_wire.proofs.Failing.{fails_at_end, fails_here, fails_behind, starts_behind, starts_with_byte, begins_spelled}

-- a digit stands for one number
glyph_injective : (a b : ℕ) → a < 16 → b < 16 → digit_glyph false a ≡ digit_glyph false b → a ≡ b
glyph_injective a b small small' e = grind (arith, nat_tests)

byte_empty : (byte : ℕ) → PrintedByte byte [] → ⊥
byte_empty byte (text, small) = cc

one_byte : (v w : ℕ) (f g x y : List ℕ) → PrintedByte v f → PrintedByte w g → f ++ x ≡ g ++ y → (v ≡ w) × (f ≡ g)
one_byte v w f g x y (text, small) (text', small') e =
    let whole = ap (λ t. t ++ x) (sym text) ∙ e ∙ ap (λ t. t ++ y) text' in
    let high : v / 16 ≡ w / 16 = glyph_injective (v / 16) (w / 16) (omega arith) (omega arith) cc in
    let low : v % 16 ≡ w % 16 = glyph_injective (v % 16) (w % 16) (omega arith) (omega arith) cc in
    let same : v ≡ w = omega arith in
    (same, text ∙ ap (λ b. digit_glyph false (b / 16) ∷ digit_glyph false (b % 16) ∷ []) same ∙ sym text')

-- no printed byte begins another
pub bytes_free : IsPrefixFree PrintedByte
bytes_free = record { empty = byte_empty; one = one_byte }

begun : Begins (StartsWith PrintedByte) []
begun = begins_spelled PrintedByte 0 (48 ∷ 48 ∷ []) (refl, omega arith)

pub byte_end : FailsAt (StartsWith PrintedByte) [] 0
byte_end = fails_at_end (StartsWith PrintedByte) begun none where
  none : (byte : ℕ) → StartsWith PrintedByte byte [] → ⊥
  none byte (after, ([], spelled, parts)) = byte_empty byte spelled
  none byte (after, (first ∷ front, spelled, parts)) = absurd cc

-- a first character that is no digit
pub no_first_digit : (first : ℕ) (others : List ℕ) → ((value : ℕ) → value < 16 → digit_glyph false value ≡ first → ⊥) → FailsAt (StartsWith PrintedByte) (first ∷ others) 0
no_first_digit first others other = fails_here (StartsWith PrintedByte) first others begun none where
  none : (byte : ℕ) (rest : List ℕ) → StartsWith PrintedByte byte (first ∷ rest) → ⊥
  none byte rest (after, ([], spelled, parts)) = byte_empty byte spelled
  none byte rest (after, (digit ∷ front, (text, small), parts)) =
      let same : digit_glyph false (byte / 16) ≡ first = cc in
      other (byte / 16) (omega arith) same

-- the second digit alone
abbrev LastDigit : ℕ → List ℕ → Type 0
LastDigit value text = (text ≡ digit_glyph false value ∷ []) × (value < 16)

last_begun : Begins (StartsWith LastDigit) []
last_begun = begins_spelled LastDigit 0 (48 ∷ []) (refl, omega arith)

last_behind : (high first : ℕ) (others : List ℕ) → high < 16 → digit_glyph false high ≡ first → FailsAt (StartsWith LastDigit) others 0 → FailsAt (StartsWith PrintedByte) (first ∷ others) 1
last_behind high first others small is =
    fails_behind (StartsWith LastDigit) (StartsWith PrintedByte) first others 0 (λ low. 16 * high + low)
    (starts_behind LastDigit PrintedByte first (λ low. 16 * high + low) to)
    (starts_with_byte LastDigit PrintedByte first byte_empty from) where
      to : (low : ℕ) (rest : List ℕ) → LastDigit low rest → PrintedByte (16 * high + low) (first ∷ rest)
      to low rest (text, below) =
          let front : (16 * high + low) / 16 ≡ high = omega arith in
          let last : (16 * high + low) % 16 ≡ low = omega arith in
          (rw (front, last, text, is) refl, omega arith)

      from : (byte : ℕ) (rest : List ℕ) → PrintedByte byte (first ∷ rest) → (low : ℕ) × LastDigit low rest
      from byte rest (text, below) =
          let last : rest ≡ digit_glyph false (byte % 16) ∷ [] = cc in
          (byte % 16, (last, omega arith))

-- no second digit
pub second_digit_missing : (high first : ℕ) → high < 16 → digit_glyph false high ≡ first → FailsAt (StartsWith PrintedByte) (first ∷ []) 1
second_digit_missing high first small is = last_behind high first [] small is (fails_at_end (StartsWith LastDigit) last_begun none) where
  none : (value : ℕ) → StartsWith LastDigit value [] → ⊥
  none value (after, ([], (text, below), parts)) = absurd cc
  none value (after, (digit ∷ front, spelled, parts)) = absurd cc

-- a second character that is no digit
pub no_second_digit : (high first second : ℕ) (rest : List ℕ) → high < 16 → digit_glyph false high ≡ first → ((value : ℕ) → value < 16 → digit_glyph false value ≡ second → ⊥)
    → FailsAt (StartsWith PrintedByte) (first ∷ second ∷ rest) 1
no_second_digit high first second rest small is other = last_behind high first (second ∷ rest) small is (fails_here (StartsWith LastDigit) second rest last_begun none) where
  none : (value : ℕ) (rest : List ℕ) → StartsWith LastDigit value (second ∷ rest) → ⊥
  none value rest (after, ([], (text, below), parts)) = absurd cc
  none value rest (after, (digit ∷ front, (text, below), parts)) =
      let same : digit_glyph false value ≡ second = cc in
      other value below same
