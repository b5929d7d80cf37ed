-- Numbers.
use Rattle.std.proofs.Common.{◌≡◌, ℕ, Bool, true, false, ◌==◌, ◌&&◌, ◌||◌, not, if◌then◌else◌, ◌≤◌, ◌-◌, ◌+◌, ◌*◌, min, List, [], ◌∷◌, ◌++◌, length, inl, refl, sym, ap, subst, ◌∙◌, arith}
use Rattle.std.specs.List.{list_all}
use Rattle.pt_val.specs.Name.{is_digit}
use Rattle.pt_token.specs.declared.token.Kind.{Kind}
use Rattle.pt_token.specs.declared.token.Kind.TheVariants as kind
use Rattle.pt_lex.specs.Numbers.{is_number, number_on}
use Rattle.pt_lex.specs.Outcome.{Takes}
use Rattle.pt_lex.specs.Tokens.{Spelled}
use Rattle.pt_lex.specs.reading.Number.{digits_on, number_token}
use Rattle.pt_lex.proofs.Fronts.{Stops, and_left, and_right, no_longer}
use Rattle.pt_lex.proofs.Taking.{Found, Numeric, sort_at, sort_of, sort_there, digit_no_letter}

pub record Digits (n : ℕ) (text : List ℕ) (x : ℕ × List ℕ) : Type 0 where
  pub front : List ℕ
  pub parts : text ≡ front ++ x.1
  pub all : list_all is_digit front ≡ true
  pub stops : Stops is_digit x.1
  pub value : x.0 ≡ min (number_on n front) 18446744073709551615

saturates : (n d : ℕ) → min (min (min n 18446744073709551615 * 10) 18446744073709551615 + d) 18446744073709551615 ≡ min (10 * n + d) 18446744073709551615
saturates n d = omega arith

digits_cut : (n : ℕ) (text : List ℕ) → Digits n text (digits_on (min n 18446744073709551615) text)
digits_cut n [] = record { front = []; parts = refl; all = refl; stops = tt; value = refl }
digits_cut n (char ∷ text) = cases (is_digit char) (digits_cut (10 * n + (char - 48)) text) refl where
  kept : ℕ
  kept = min n 18446744073709551615

  next : ℕ
  next = min (min (kept * 10) 18446744073709551615 + (char - 48)) 18446744073709551615

  cases : (b : Bool) → Digits (10 * n + (char - 48)) text (digits_on (min (10 * n + (char - 48)) 18446744073709551615) text) → is_digit char ≡ b
      → Digits n (char ∷ text) (if is_digit char then digits_on next text else (kept, char ∷ text))
  cases true more e =
      let m : Digits (10 * n + (char - 48)) text (digits_on next text) = subst (λ k. Digits (10 * n + (char - 48)) text (digits_on k text)) (sym (saturates n (char - 48))) more in
      rw e (record { front = char ∷ m.front; parts = ap (λ l. char ∷ l) m.parts; all = rw (e, m.all) refl; stops = m.stops; value = m.value })
  cases false more e = rw e (record { front = []; parts = refl; all = refl; stops = e; value = refl })

all_digits : (text : List ℕ) → is_number text ≡ true → list_all is_digit text ≡ true
all_digits [] e = absurd cc
all_digits (first ∷ rest) e = and_left (is_digit first && list_all is_digit rest) (not (first == 48) || length rest == 0) e

form_of : (which : Kind) (lexeme : List ℕ) → Spelled which lexeme → sort_of which ≡ Numeric → is_number lexeme ≡ true
form_of (kind.Number kept) lexeme s e = s.0
form_of other lexeme s e = absurd cc

pub only_value : (which : Kind) (lexeme : List ℕ) → Spelled which lexeme → sort_of which ≡ Numeric → which ≡ kind.Number (min (number_on 0 lexeme) 18446744073709551615)
only_value (kind.Number kept) lexeme s e = ap (λ k. kind.Number k) s.1
only_value other lexeme s e = absurd cc

digit_sort : (first : ℕ) → is_digit first ≡ true → sort_at first ≡ Numeric
digit_sort first digit = rw (digit_no_letter first digit, digit) refl

zero_alone : (longer more text : List ℕ) → is_number longer ≡ true → 48 ∷ text ≡ longer ++ more → length longer ≤ 1
zero_alone [] more text e parts = omega arith
zero_alone (a ∷ tail) more text e parts =
    let same : a ≡ 48 = cc in
    let h : (not (48 == 48) || length tail == 0) ≡ true = subst (λ x. (not (x == 48) || length tail == 0) ≡ true) same (and_right (is_digit a && list_all is_digit tail) (not (a == 48) || length tail == 0) e) in
    grind (arith, h)

zero_outcome : (text : List ℕ) → Found (48 ∷ text) (kind.Number 0, text)
zero_outcome text = inl (record {
  lexeme = 48 ∷ [];
  parts = refl;
  spelled = (refl, refl);
  apart = λ b. absurd (other b.0);
  longest = λ other longer more s e. zero_alone longer more text (form_of other longer s (sort_there other 48 text longer more s e)) e;
  only = λ other s tells. only_value other (48 ∷ []) s (sort_there other 48 [] (48 ∷ []) [] s refl);
  tells = tt;
}) where
  other : ◌≡◌ {A = List ℕ} (48 ∷ []) (120 ∷ []) → ⊥
  other e = absurd cc

formed : (first : ℕ) (text front rest : List ℕ) → is_digit first ≡ true → (first == 48) ≡ false → first ∷ text ≡ front ++ rest → list_all is_digit front ≡ true → Stops is_digit rest → is_number front ≡ true
formed first text [] [] digit no_zero e all stops = absurd cc
formed first text [] (b ∷ rest) digit no_zero e all stops =
    let same : b ≡ first = cc in
    let bad : is_digit first ≡ false = subst (λ x. is_digit x ≡ false) same stops in
    absurd cc
formed first text (b ∷ front) rest digit no_zero e all stops =
    let same : b ≡ first = cc in
    let z : (b == 48) ≡ false = subst (λ x. (x == 48) ≡ false) (sym same) no_zero in
    rw (all, z) refl

pub number_outcome : (first : ℕ) (text : List ℕ) → is_digit first ≡ true → Found (first ∷ text) (number_token (first ∷ text))
number_outcome first text digit = cases (first == 48) refl where
  other_sort : Digits 0 (first ∷ text) (digits_on 0 (first ∷ text)) → (first == 48) ≡ false → Takes (kind.Number (digits_on 0 (first ∷ text)).0) (first ∷ text) (digits_on 0 (first ∷ text)).1
  other_sort c no_zero = record {
    lexeme = c.front;
    parts = c.parts;
    spelled = (formed first text c.front rest digit no_zero c.parts c.all c.stops, c.value);
    apart = λ b. not_x c.front c.all b.0;
    longest = λ other longer more s e. no_longer is_digit c.front rest longer more c.stops
        (all_digits longer (form_of other longer s (sort_there other first text longer more s e ∙ digit_sort first digit))) (sym c.parts ∙ e);
    tells = tt;
    only = λ other s tells. only_value other c.front s (sort_there other first text c.front rest s c.parts ∙ digit_sort first digit) ∙ ap (λ k. kind.Number k) (sym c.value);
  } where
    rest : List ℕ
    rest = (digits_on 0 (first ∷ text)).1

    not_x : (front : List ℕ) → list_all is_digit front ≡ true → front ≡ 120 ∷ [] → ⊥
    not_x front all e = let h : list_all is_digit (120 ∷ []) ≡ true = subst (λ f. list_all is_digit f ≡ true) e all in absurd cc

  cases : (b : Bool) → (first == 48) ≡ b → Found (first ∷ text) (number_token (first ∷ text))
  cases true e = let z : first ≡ 48 = grind (arith, e) in subst (λ x. Found (x ∷ text) (number_token (x ∷ text))) (sym z) (zero_outcome text)
  cases false e = rw e (inl (other_sort (digits_cut 0 (first ∷ text)) e))
