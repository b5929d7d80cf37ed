-- The hex digits of a number are those of its sixteenth and one more.
use Rattle.std.proofs.Common.{◌≡◌, ℕ, ◌/◌, ◌%◌, ◌^◌, ◌<◌, ◌≤◌, zero, suc, false, cond, List, [], ◌∷◌, ◌++◌, refl, sym, ap, ◌∙◌, append_assoc, ⊎_elim, arith}
use borrow.Author.Tests.{eq-eqb, ne_eqb}
use Rattle.std.specs.Fmt.{digits, digits_onto, digit_glyph}
use Rattle.std.proofs.lemmas.Bool.{cases_lt}

abbrev hex_onto : ℕ → ℕ → List ℕ → List ℕ
hex_onto k n after = digits_onto k 16 false n after

abbrev last_digit : ℕ → ℕ
last_digit n = digit_glyph false (n % 16)

hex_onto_last : (k n : ℕ) (after : List ℕ) → n < 16 → hex_onto (suc k) n after ≡ last_digit n ∷ after
hex_onto_last k n after small =
    ap (λ t. cond t (last_digit n ∷ after) (hex_onto k (n / 16) (last_digit n ∷ after))) (eq-eqb (n / 16) 0 (omega arith))

hex_onto_next : (k n : ℕ) (after : List ℕ) → 16 ≤ n → hex_onto (suc k) n after ≡ hex_onto k (n / 16) (last_digit n ∷ after)
hex_onto_next k n after large =
    ap (λ t. cond t (last_digit n ∷ after) (hex_onto k (n / 16) (last_digit n ∷ after))) (ne_eqb (n / 16) 0 (λ e. omega arith))

hex_onto-append : (k n : ℕ) (after : List ℕ) → hex_onto k n after ≡ hex_onto k n [] ++ after
hex_onto-append zero n after = refl
hex_onto-append (suc k) n after = ⊎_elim
    (λ small. hex_onto_last k n after small ∙ ap (λ x. x ++ after) (sym (hex_onto_last k n [] small)))
    (λ large. hex_onto_next k n after large ∙ hex_onto-append k (n / 16) (last_digit n ∷ after)
    ∙ sym (append_assoc (hex_onto k (n / 16) []) (last_digit n ∷ []) after)
    ∙ ap (λ x. x ++ after) (sym (hex_onto_next k n [] large ∙ hex_onto-append k (n / 16) (last_digit n ∷ []))))
    (cases_lt n 16)

-- room for more digits than there are changes nothing
hex_onto_enough : (j k n : ℕ) (after : List ℕ) → n < 16 ^ suc j → n < 16 ^ suc k → hex_onto (suc j) n after ≡ hex_onto (suc k) n after
hex_onto_enough zero k n after p q = hex_onto_last zero n after (omega arith) ∙ sym (hex_onto_last k n after (omega arith))
hex_onto_enough (suc j) zero n after p q = hex_onto_last (suc j) n after (omega arith) ∙ sym (hex_onto_last zero n after (omega arith))
hex_onto_enough (suc j) (suc k) n after p q = ⊎_elim
    (λ small. hex_onto_last (suc j) n after small ∙ sym (hex_onto_last (suc k) n after small))
    (λ large. hex_onto_next (suc j) n after large ∙ hex_onto_enough j k (n / 16) (last_digit n ∷ after) (omega arith) (omega arith)
    ∙ sym (hex_onto_next (suc k) n after large))
    (cases_lt n 16)

pub digits_step : (n : ℕ) → 16 ≤ n → n < 2 ^ 32 → digits 16 false n ≡ digits 16 false (n / 16) ++ last_digit n ∷ []
unfolding digits
digits_step n large fits =
    hex_onto_next 63 n [] large ∙ hex_onto_enough 62 63 (n / 16) (last_digit n ∷ []) (omega arith) (omega arith) ∙ hex_onto-append 64 (n / 16) (last_digit n ∷ [])
