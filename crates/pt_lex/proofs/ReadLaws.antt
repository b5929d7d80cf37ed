-- What is read of a token, by what stands first.
use Rattle.std.proofs.Common.{◌≡◌, ℕ, true, false, ◌==◌, List, [], ◌∷◌, take, Result, Ok, Err, IfOk, refl, sym, ap, subst, ◌∙◌, arith, true≢false}
use Rattle.pt_val.specs.Name.{is_digit, is_letter}
use Rattle.pt_token.specs.declared.token.Kind.{Kind}
use Rattle.pt_lex.specs.Outcome.{Outcome, StartsLetter}
use Rattle.pt_lex.specs.reading.Mark.{mark_token}
use Rattle.pt_lex.specs.reading.Number.{minus_token, number_token}
use Rattle.pt_lex.specs.reading.Word.{same_text, word_token}
use Rattle.pt_lex.proofs.MarkLaws.{mark_outcome}
use Rattle.pt_lex.proofs.MinusLaws.{minus_outcome}
use Rattle.pt_lex.proofs.NumberLaws.{number_outcome}
use Rattle.pt_lex.proofs.Taking.{Found, Marking, sort_at}
use Rattle.pt_lex.proofs.WordLaws.{word_outcome}

abbrev pub Read : List ℕ → Kind × List ℕ → Type 0
Read text x = Outcome text x.0 x.1

pub if_ok : {X E : Type 0} (r : Result X E) (P Q : X → Type 0) → ((x : X) → P x → Q x) → IfOk r P → IfOk r Q
if_ok (Ok x) P Q from held = from x held
if_ok (Err e) P Q from held = tt

pub word_read : (text : List ℕ) (x : Kind × List ℕ) → StartsLetter text → same_text (take 2 text) (120 ∷ 34 ∷ []) ≡ false → x ≡ word_token text → Read text x
word_read [] x letter other e = absurd letter
word_read (first ∷ text) x letter other e = subst (Found (first ∷ text)) (sym e) (word_outcome first text letter apart) where
  apart : (inside : List ℕ) → first ∷ text ≡ 120 ∷ 34 ∷ inside → ⊥
  apart inside is = true≢false (sym (ap (λ t. same_text (take 2 t) (120 ∷ 34 ∷ [])) is) ∙ other)

pub number_read : (text inside : List ℕ) (first : ℕ) (x : Kind × List ℕ) → text ≡ first ∷ inside → is_digit first ≡ true → x ≡ number_token text → Read text x
number_read text inside first x parts digit e =
    subst (λ t. Read t x) (sym parts) (subst (Found (first ∷ inside)) (sym (e ∙ ap number_token parts)) (number_outcome first inside digit))

pub minus_read : (text inside : List ℕ) (first : ℕ) (x : Kind × List ℕ) → text ≡ first ∷ inside → first ≡ 45 → x ≡ minus_token inside → Read text x
minus_read text inside first x parts is e =
    subst (λ t. Read t x) (sym (parts ∙ ap (λ c. c ∷ inside) is)) (subst (Found (45 ∷ inside)) (sym e) (minus_outcome inside))

is_other : (a b : ℕ) → (a ≡ b → ⊥) → (a == b) ≡ false
is_other a b differ = grind (arith, differ)

pub mark_read : (text inside : List ℕ) (first : ℕ) (x : Kind × List ℕ) → text ≡ first ∷ inside → is_letter first ≡ false → is_digit first ≡ false → (first ≡ 34 → ⊥) → (first ≡ 45 → ⊥)
    → x ≡ mark_token text → Read text x
mark_read text inside first x parts letter digit quote sign e =
    subst (λ t. Read t x) (sym parts) (subst (Found (first ∷ inside)) (sym (e ∙ ap mark_token parts)) (mark_outcome first inside sort)) where
      sort : sort_at first ≡ Marking
      sort = rw (letter, digit, is_other first 34 quote, is_other first 45 sign) refl
