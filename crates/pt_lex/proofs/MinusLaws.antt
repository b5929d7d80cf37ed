-- Minus signs.
use Rattle.std.proofs.Common.{◌≡◌, ◌≢◌, ℕ, Bool, true, false, List, [], ◌∷◌, length, inl, refl, ap, ◌∙◌, arith}
use Rattle.pt_val.specs.Name.{is_digit}
use Rattle.pt_token.specs.declared.token.Kind.{Kind}
use Rattle.pt_token.specs.declared.token.Kind.TheVariants as kind
use Rattle.pt_lex.specs.Gaps.{is_blank}
use Rattle.pt_lex.specs.Tokens.{NumberFollows, Spelled, TellsNumber}
use Rattle.pt_lex.specs.reading.Gap.{gap_on}
use Rattle.pt_lex.specs.reading.Number.{minus_token, number_follows, starts_digit}
use Rattle.pt_lex.proofs.GapLaws.{Gap, Past, Ended, found_gap, gap_read}
use Rattle.pt_lex.proofs.Taking.{Found, Signed, sort_of, sort_there}

pub past_digit : (char : ℕ) → is_digit char ≡ true → (is_blank char ≡ false) × (char ≢ 35)
past_digit char e = (grind (arith, e), grind (arith, e))

found : (text rest : List ℕ) → Gap text rest → starts_digit rest ≡ true → NumberFollows text
found text _ (Ended last) e = absurd cc
found text _ (Past gap [] is past parts) e = absurd cc
found text _ (Past gap (digit ∷ more) is past parts) e = (gap, more, digit, is, e, parts)

follows : (text : List ℕ) → NumberFollows text → number_follows text ≡ true
follows text (gap, more, digit, is, e, parts) =
    ap starts_digit (ap (gap_on false) parts ∙ gap_read gap (digit ∷ more) is (past_digit digit e)) ∙ e

tells_it : (text : List ℕ) (b : Bool) → number_follows text ≡ b → TellsNumber (kind.Minus b) text
tells_it text true e = found text (gap_on false text) (found_gap text) e
tells_it text false e = λ there. let h = follows text there in absurd cc

agrees : (text : List ℕ) (b : Bool) → TellsNumber (kind.Minus b) text → (c : Bool) → number_follows text ≡ c → b ≡ c
agrees text true t true e = refl
agrees text false t false e = refl
agrees text true t false e = let h = follows text t in absurd cc
agrees text false t true e = absurd (t (found text (gap_on false text) (found_gap text) e))

form_of : (which : Kind) (lexeme : List ℕ) → Spelled which lexeme → sort_of which ≡ Signed → lexeme ≡ 45 ∷ []
form_of (kind.Minus number) lexeme s e = s
form_of other lexeme s e = absurd cc

pub only_minus : (text : List ℕ) (which : Kind) → sort_of which ≡ Signed → TellsNumber which text → which ≡ kind.Minus (number_follows text)
only_minus text (kind.Minus number) e t = ap (λ b. kind.Minus b) (agrees text number t (number_follows text) refl)
only_minus text other e t = absurd cc

pub minus_outcome : (text : List ℕ) → Found (45 ∷ text) (minus_token text)
unfolding minus_token
minus_outcome text = inl (record {
  lexeme = 45 ∷ [];
  parts = refl;
  spelled = refl;
  apart = λ b. absurd (no_x b.0);
  longest = λ other longer more s e. omega (arith, ap length (form_of other longer s (sort_there other 45 text longer more s e)));
  only = λ other s t. only_minus text other (sort_there other 45 [] (45 ∷ []) [] s refl) t;
  tells = tells_it text (number_follows text) refl;
}) where
  no_x : ◌≡◌ {A = List ℕ} (45 ∷ []) (120 ∷ []) → ⊥
  no_x e = absurd cc
