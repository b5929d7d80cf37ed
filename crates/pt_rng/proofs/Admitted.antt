-- The choice that is made for a question is admitted.
use Rattle.std.proofs.Common.{◌≡◌, ℕ, zero, suc, ◌+◌, ◌%◌, ◌<◌, true, ℤ, pos, ◌≤ℤ◌, map, length, refl, arith}
use Rattle.std.specs.Prelude.{nat_lt, int_le, ◌&&◌}
use Rattle.std.specs.List.{list_all, range_with_len}
use Rattle.std.proofs.lemmas.Bool.Decides.{nat_tests}
use Rattle.std.proofs.lemmas.Int.{ints}
use Rattle.std.proofs.lemmas.List.FromFn.{length-map-range_with_len}
use Rattle.std.proofs.lemmas.Nat.{mod_below}
use Rattle.rand_chacha.specs.ChaCha.{ChaCha}
use Rattle.pt_choice.specs.Kind.{IsShape, admits}
use Rattle.pt_choice.specs.declared.kind.Shape.{Shape}
use Rattle.pt_choice.specs.declared.kind.Shape.TheVariants.{Bool, Int, Bytes, Text}
use Rattle.pt_rng.specs.Words.{nth_word, length_of, numbers_of, integer_of, choice_of}

-- what is left by a division by size is below size
below : (f : ℕ → ℕ) (size first count : ℕ) → 0 < size
    → list_all (λ place. nat_lt place size) (map (λ n. f n % size) (range_with_len first count)) ≡ true
below f size first zero some = refl
below f size first (suc count) some =
    grind (arith, nat_tests, below f size (first + 1) count some, mod_below (f first) size some)

numbers-below : (from : ChaCha) (size count : ℕ) → 0 < size → list_all (λ place. nat_lt place size) (numbers_of from size count) ≡ true
numbers-below from size count some = below (nth_word from) size 1 count some

length-numbers : (from : ChaCha) (size count : ℕ) → length (numbers_of from size count) ≡ count
length-numbers from size count = length-map-range_with_len (λ n. nth_word from n % size) 1 count

integer-within : (from : ChaCha) (lo hi : ℤ) → lo ≤ℤ pos 0 → pos 0 ≤ℤ hi
    → (int_le lo (integer_of from lo hi) && int_le (integer_of from lo hi) hi) ≡ true
integer-within from lo hi low high = grind (arith, ints, nat_tests)

pub admits-choice_of : (from : ChaCha) (asked : Shape) → IsShape asked → admits asked (choice_of from asked) ≡ true
admits-choice_of from (Bool chance) is = refl
admits-choice_of from (Int lo hi) is = integer-within from lo hi is.0 is.1
admits-choice_of from (Bytes min max) is =
    grind (arith, nat_tests, length-numbers from 256 (length_of from min max))
admits-choice_of from (Text min max size) is =
    let below = numbers-below from size (length_of from min max) (omega arith) in
    grind (arith, nat_tests, length-numbers from size (length_of from min max))
