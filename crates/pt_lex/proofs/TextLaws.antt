-- Texts.
use Rattle.std.proofs.Common.{◌≡◌, ℕ, Bool, true, false, ◌==◌, ◌||◌, if◌then◌else◌, ◌≤◌, ◌<◌, nat_lt, List, [], ◌∷◌, ◌++◌, length, inl, inr, refl, sym, ap, subst, ◌∙◌, append_assoc, arith, length-append}
use Rattle.std.specs.List.{list_all}
use Rattle.pt_wire.proofs.Chains.{IsPrefixFree}
use Rattle.pt_token.specs.declared.token.Kind.{Kind}
use Rattle.pt_token.specs.declared.token.Kind.TheVariants as kind
use Rattle.pt_lex.specs.Outcome.{Takes, Refused}
use Rattle.pt_lex.specs.Texts.{Closes, IsQuoted, SpellsChar, hex_on, is_hex, is_plain}
use Rattle.pt_lex.specs.Tokens.{Spelled, TellsNumber}
use Rattle.pt_lex.specs.reading.Text.{text_kind}
use Rattle.pt_lex.proofs.ClosedLaws.{StartsElse, closed_one, closed_within}
use Rattle.pt_lex.proofs.Fronts.{no_longer, same_front, tail_same}
use Rattle.pt_lex.proofs.Taking.{Textual, sort_of, sort_there}

-- digits up to a brace are all the digits there
one_code : (digits others x y : List ℕ) → list_all is_hex digits ≡ true → list_all is_hex others ≡ true → digits ++ 125 ∷ x ≡ others ++ 125 ∷ y → (digits ≡ others) × (x ≡ y)
one_code digits others x y all also e =
    let up = no_longer is_hex digits (125 ∷ x) others (125 ∷ y) refl also e in
    let down = no_longer is_hex others (125 ∷ y) digits (125 ∷ x) refl all (sym e) in
    let same = same_front digits (125 ∷ x) others (125 ∷ y) e (omega arith) in
    (same.0, tail_same 125 125 x y same.1)

-- a code behind its backslash
coded : (code digits x : List ℕ) → code ≡ 123 ∷ digits ++ 125 ∷ [] → (92 ∷ 117 ∷ code) ++ x ≡ 92 ∷ 117 ∷ 123 ∷ (digits ++ 125 ∷ x)
coded code digits x is = ap (λ c. (92 ∷ 117 ∷ c) ++ x) is ∙ ap (λ d. 92 ∷ 117 ∷ 123 ∷ d) (append_assoc digits (125 ∷ []) x)

no_slash : (char : ℕ) → is_plain char ≡ true → char ≡ 92 → ⊥
no_slash char plain e = grind (arith, plain, e)

no_code : (char : ℕ) → (char == 34 || char == 92) ≡ true → char ≡ 117 → ⊥
no_code char quoted e = grind (arith, quoted, e)

heads : (a b : ℕ) (x y : List ℕ) → a ∷ x ≡ b ∷ y → a ≡ b
heads a b x y e = cc

one_char : (v w : ℕ) (f g x y : List ℕ) → SpellsChar v f → SpellsChar w g → f ++ x ≡ g ++ y → (v ≡ w) × (f ≡ g)
one_char v w f g x y (inl (plain, is)) (inl (also, same)) e =
    let h : v ≡ w = heads v w x y (ap (λ l. l ++ x) (sym is) ∙ e ∙ ap (λ l. l ++ y) same) in
    (h, is ∙ ap (λ c. c ∷ []) h ∙ sym same)
one_char v w f g x y (inl (plain, is)) (inr (inl (quoted, same))) e =
    absurd (no_slash v plain (heads v 92 x (w ∷ y) (ap (λ l. l ++ x) (sym is) ∙ e ∙ ap (λ l. l ++ y) same)))
one_char v w f g x y (inl (plain, is)) (inr (inr (code, spelled, same))) e =
    absurd (no_slash v plain (heads v 92 x ((117 ∷ code) ++ y) (ap (λ l. l ++ x) (sym is) ∙ e ∙ ap (λ l. l ++ y) same)))
one_char v w f g x y (inr (inl (quoted, is))) (inl (plain, same)) e =
    absurd (no_slash w plain (heads w 92 y (v ∷ x) (sym (ap (λ l. l ++ x) (sym is) ∙ e ∙ ap (λ l. l ++ y) same))))
one_char v w f g x y (inr (inl (quoted, is))) (inr (inl (also, same))) e =
    let h : v ≡ w = heads v w x y (tail_same 92 92 (v ∷ x) (w ∷ y) (ap (λ l. l ++ x) (sym is) ∙ e ∙ ap (λ l. l ++ y) same)) in
    (h, is ∙ ap (λ c. 92 ∷ c ∷ []) h ∙ sym same)
one_char v w f g x y (inr (inl (quoted, is))) (inr (inr (code, spelled, same))) e =
    absurd (no_code v quoted (heads v 117 x (code ++ y) (tail_same 92 92 (v ∷ x) (117 ∷ code ++ y) (ap (λ l. l ++ x) (sym is) ∙ e ∙ ap (λ l. l ++ y) same))))
one_char v w f g x y (inr (inr (code, spelled, is))) (inl (plain, same)) e =
    absurd (no_slash w plain (heads w 92 y ((117 ∷ code) ++ x) (sym (ap (λ l. l ++ x) (sym is) ∙ e ∙ ap (λ l. l ++ y) same))))
one_char v w f g x y (inr (inr (code, spelled, is))) (inr (inl (quoted, same))) e =
    absurd (no_code w quoted (heads w 117 y (code ++ x) (tail_same 92 92 (w ∷ y) (117 ∷ code ++ x) (sym (ap (λ l. l ++ x) (sym is) ∙ e ∙ ap (λ l. l ++ y) same)))))
one_char v w f g x y (inr (inr (code, (digits, all, some, few, value, scalar, whole), is))) (inr (inr (other, (others, also, any, short, number, valid, made), same))) e =
    let parts : 92 ∷ 117 ∷ 123 ∷ (digits ++ 125 ∷ x) ≡ 92 ∷ 117 ∷ 123 ∷ (others ++ 125 ∷ y) =
    sym (coded code digits x whole) ∙ ap (λ l. l ++ x) (sym is) ∙ e ∙ ap (λ l. l ++ y) same ∙ coded other others y made in
    let inner : digits ++ 125 ∷ x ≡ others ++ 125 ∷ y = cc in
    let one = one_code digits others x y all also inner in
    (value ∙ ap (hex_on 0) one.0 ∙ sym number, is ∙ ap (λ c. 92 ∷ 117 ∷ c) (whole ∙ ap (λ d. 123 ∷ d ++ 125 ∷ []) one.0 ∙ sym made) ∙ sym same)

no_char : (char : ℕ) → SpellsChar char [] → ⊥
no_char char (inl (plain, is)) = absurd cc
no_char char (inr (inl (quoted, is))) = absurd cc
no_char char (inr (inr (code, spelled, is))) = absurd cc

-- no spelling of a character begins another
pub chars_free : IsPrefixFree SpellsChar
chars_free = record { empty = no_char; one = one_char }

pub chars_else : StartsElse SpellsChar
chars_else char front rest more (inl (plain, is)) e = quote char plain (heads char 34 rest more (ap (λ l. l ++ rest) (sym is) ∙ e)) where
  quote : (char : ℕ) → is_plain char ≡ true → char ≡ 34 → ⊥
  quote char plain e = grind (arith, plain, e)
chars_else char front rest more (inr (inl (quoted, is))) e = omega (arith, heads 92 34 (char ∷ rest) more (ap (λ l. l ++ rest) (sym is) ∙ e))
chars_else char front rest more (inr (inr (code, spelled, is))) e = omega (arith, heads 92 34 ((117 ∷ code) ++ rest) more (ap (λ l. l ++ rest) (sym is) ∙ e))

lt_no : (a b : ℕ) → a ≤ b → nat_lt b a ≡ false
lt_no a b le = grind (arith, le)

lt_yes : (a b : ℕ) → b < a → nat_lt b a ≡ true
lt_yes a b lt = grind (arith, lt)

pub quoted_of : (which : Kind) (lexeme : List ℕ) → Spelled which lexeme → sort_of which ≡ Textual → (chars : List ℕ) × IsQuoted chars lexeme × (which ≡ text_kind chars)
quoted_of (kind.Text chars) lexeme s e = (chars, s.0, rw (lt_no (length chars) 256 s.1) refl)
quoted_of kind.LongText lexeme s e = (s.0, s.1, rw (lt_yes (length s.0) 256 s.2) refl)
quoted_of other lexeme s e = absurd cc

text_tells : (chars rest : List ℕ) → TellsNumber (text_kind chars) rest
text_tells chars rest = sized (nat_lt 256 (length chars)) refl where
  sized : (b : Bool) → nat_lt 256 (length chars) ≡ b → TellsNumber (if nat_lt 256 (length chars) then kind.LongText else kind.Text chars) rest
  sized true e = rw e tt
  sized false e = rw e tt

kind_spelled : (chars lexeme : List ℕ) → IsQuoted chars lexeme → Spelled (text_kind chars) lexeme
kind_spelled chars lexeme q = cases (nat_lt 256 (length chars)) refl where
  cases : (b : Bool) → nat_lt 256 (length chars) ≡ b → Spelled (if nat_lt 256 (length chars) then kind.LongText else kind.Text chars) lexeme
  cases true e = rw e (chars, q, grind (arith, e))
  cases false e = rw e (q, grind (arith, e))

-- the characters of a text that stands there are closed behind its first quote
closed_there : (inside chars lexeme more : List ℕ) → IsQuoted chars lexeme → 34 ∷ inside ≡ lexeme ++ more → Closes SpellsChar chars inside more
closed_there inside chars lexeme more (quoted, closes, is) e =
    subst (λ t. Closes SpellsChar chars t more) (sym (tail_same 34 34 inside (quoted ++ more) (e ∙ ap (λ l. l ++ more) is))) (closed_within SpellsChar chars quoted more closes)

-- one text is spelled so
pub only_text : (which other : Kind) (lexeme : List ℕ) → Spelled which lexeme → Spelled other lexeme → sort_of which ≡ Textual → sort_of other ≡ Textual → which ≡ other
only_text which other lexeme s t e k =
    let a = quoted_of which lexeme s e in
    let b = quoted_of other lexeme t k in
    let inside = tail_same 34 34 a.1.0 b.1.0 (sym a.1.2 ∙ b.1.2) in
    let one = closed_one SpellsChar chars_free chars_else a.0 b.0 b.1.0 [] [] (subst (λ i. Closes SpellsChar a.0 i []) inside a.1.1) b.1.1 in
    a.2 ∙ ap text_kind one.0 ∙ sym b.2

pub text_taken : (inside chars rest : List ℕ) → Closes SpellsChar chars inside rest → Takes (text_kind chars) (34 ∷ inside) rest
text_taken inside chars rest closes = record {
  lexeme = lexeme;
  parts = ap (λ l. 34 ∷ l) (closes.2 ∙ sym (append_assoc closes.0 (34 ∷ []) rest));
  spelled = kind_spelled chars lexeme (closes.0 ++ 34 ∷ [], (closes.0, closes.1, refl), refl);
  apart = λ b. omega (arith, heads 34 120 (closes.0 ++ 34 ∷ []) [] b.0);
  longest = longest;
  only = λ other spelled tells. only other spelled;
  tells = text_tells chars rest;
} where
  lexeme : List ℕ
  lexeme = 34 ∷ closes.0 ++ 34 ∷ []

  whole : 34 ∷ inside ≡ lexeme ++ rest
  whole = ap (λ l. 34 ∷ l) (closes.2 ∙ sym (append_assoc closes.0 (34 ∷ []) rest))

  there : (other : Kind) (longer more : List ℕ) → Spelled other longer → 34 ∷ inside ≡ longer ++ more → (list : List ℕ) × Closes SpellsChar list inside more × (other ≡ text_kind list)
  there other longer more spelled e =
      let q = quoted_of other longer spelled (sort_there other 34 inside longer more spelled e) in
      (q.0, closed_there inside q.0 longer more q.1 e, q.2)

  longest : (other : Kind) (longer more : List ℕ) → Spelled other longer → 34 ∷ inside ≡ longer ++ more → length longer ≤ length lexeme
  longest other longer more spelled e =
      let t = there other longer more spelled e in
      let both = closed_one SpellsChar chars_free chars_else chars t.0 inside rest more closes t.1 in
      omega (arith, ap length both.1, ap length e, ap length whole, length-append longer more, length-append lexeme rest)

  only : (other : Kind) → Spelled other lexeme → other ≡ text_kind chars
  only other spelled =
      let t = there other lexeme rest spelled whole in
      let both = closed_one SpellsChar chars_free chars_else chars t.0 inside rest rest closes t.1 in
      t.2 ∙ ap text_kind (sym both.0)

pub text_refused : (inside : List ℕ) → ((chars rest : List ℕ) → Closes SpellsChar chars inside rest → ⊥) → Refused (34 ∷ inside)
text_refused inside none which lexeme rest spelled e =
    let q = quoted_of which lexeme spelled (sort_there which 34 inside lexeme rest spelled e) in
    absurd (none q.0 rest (closed_there inside q.0 lexeme rest q.1 e))
