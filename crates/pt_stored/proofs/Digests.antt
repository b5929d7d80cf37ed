-- The text of a digest.
use Rattle.std.proofs.Common.{◌≡◌, ◌≢◌, inl, inr, ℕ, zero, suc, ◌/◌, ◌%◌, ◌<◌, Bool, true, false, List, [], ◌∷◌, ◌++◌, slice_index, refl, sym, ◌∙◌, ap, subst, arith}
use Rattle.std.specs.Prelude.{◌&&◌, ◌↔◌, IsTrue}
use Rattle.std.specs.List.{AllPass}
use Rattle.std.proofs.lemmas.Bool.{and_parts, cases_lt}
use Rattle.std.proofs.lemmas.List.Elements.{All-cons, All-nil}
use Rattle.hex.specs.Hex.{IsBytes, encode_with, encode_lower, lower_digits, decode_of}
use Rattle.hex.proofs.HexLemmas.{length-encode_with, decode_of-encode_lower}
use Rattle.std.specs.Int.{w32, to_be_bytes}
use Rattle.sha2.specs.Sha256.{sha256, digest_bytes, final_hash, initial_hash_256}
use Rattle.sha2.proofs.Facts256.{length-sha256}
use Rattle.pt_stored.specs.Digest.{IsDigest, digest_text, is_lower_digit, AreAlike}

-- the test of the first n digits of the table, which computes
abbrev all_lower : ℕ → Bool
all_lower zero = true
all_lower (suc n) = is_lower_digit (slice_index lower_digits n) && all_lower n

lower-at : (n k : ℕ) → all_lower n ≡ true → k < n → is_lower_digit (slice_index lower_digits k) ≡ true
lower-at zero k all below = absurd (omega arith)
lower-at (suc n) k all below =
    let parts = and_parts (is_lower_digit (slice_index lower_digits n)) (all_lower n) all in
    elim (cases_lt k n) [
      | inl less ↦ lower-at n k parts.1 less
      | inr top ↦ let same : k ≡ n = omega arith in subst (λ (m : ℕ). is_lower_digit (slice_index lower_digits m) ≡ true) (sym same) parts.0
    ]

lower-digit : (k : ℕ) → k < 16 → is_lower_digit (slice_index lower_digits k) ≡ true
lower-digit k below = lower-at 16 k refl below

pub lower-encoded : (xs : List ℕ) → IsBytes xs → AllPass is_lower_digit (encode_lower xs)
unfolding encode_with
lower-encoded [] bytes = All-nil (λ c. is_lower_digit c ≡ true)
lower-encoded (x ∷ xs) bytes =
    let small : x < 256 = bytes 0 in
    let high : x / 16 < 16 = omega (arith, small) in
    let low : x % 16 < 16 = omega arith in
    All-cons (λ c. is_lower_digit c ≡ true) (slice_index lower_digits (x / 16)) (slice_index lower_digits (x % 16) ∷ encode_lower xs) (lower-digit (x / 16) high)
    (All-cons (λ c. is_lower_digit c ≡ true) (slice_index lower_digits (x % 16)) (encode_lower xs) (lower-digit (x % 16) low)
    (lower-encoded xs (λ i. bytes (suc i))))

byte-append : (xs ys : List ℕ) → IsBytes xs → IsBytes ys → IsBytes (xs ++ ys)
byte-append [] ys first second i = second i
byte-append (x ∷ xs) ys first second zero = first 0
byte-append (x ∷ xs) ys first second (suc i) = byte-append xs ys (λ i. first (suc i)) second i

word-bytes : (n : ℕ) → IsBytes (to_be_bytes w32 n)
word-bytes n zero = omega arith
word-bytes n (suc zero) = omega arith
word-bytes n (suc (suc zero)) = omega arith
word-bytes n (suc (suc (suc zero))) = omega arith
word-bytes n (suc (suc (suc (suc i)))) = omega arith

digest-bytes : (h : List ℕ) (n : ℕ) → IsBytes (digest_bytes h n)
unfolding digest_bytes
digest-bytes h zero = λ i. omega arith
digest-bytes h (suc n) = byte-append (digest_bytes h n) (to_be_bytes w32 (slice_index h n)) (digest-bytes h n) (word-bytes (slice_index h n))

pub sha256-bytes : (m : List ℕ) → IsBytes (sha256 m)
unfolding sha256
sha256-bytes m = digest-bytes (final_hash initial_hash_256 m) 8

pub is-digest : (bytes : List ℕ) → IsDigest (digest_text bytes)
is-digest bytes = record {
  long = omega (arith, length-encode_with lower_digits (sha256 bytes), length-sha256 bytes);
  digits = lower-encoded (sha256 bytes) (sha256-bytes bytes);
}

-- two digests of one text are one
pub same-digest : (one other : List ℕ) → digest_text one ≡ digest_text other → sha256 one ≡ sha256 other
same-digest one other same =
    let decoded = sym (decode_of-encode_lower (sha256 one) (sha256-bytes one)) ∙ ap decode_of same ∙ decode_of-encode_lower (sha256 other) (sha256-bytes other) in
    cc decoded

-- and one digest has one text
pub same-text : (one other : List ℕ) → sha256 one ≡ sha256 other → digest_text one ≡ digest_text other
same-text one other same = ap encode_lower same

-- what a test of two digests tells
pub differ-in-text : (same : Bool) (one other : List ℕ) → (IsTrue same ↔ (sha256 one ≡ sha256 other)) → same ≡ false → digest_text one ≢ digest_text other
differ-in-text same one other tells is texts = cc (sym is ∙ tells.1 (same-digest one other texts))

pub are-alike : (same : Bool) (one other : List ℕ) → (IsTrue same ↔ (sha256 one ≡ sha256 other)) → same ≡ true → one ≢ other → AreAlike one other
are-alike same one other tells is differ = record { differ = differ; alike = tells.0 is }
