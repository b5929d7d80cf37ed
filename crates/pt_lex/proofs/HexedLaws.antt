-- Bytes.
use Rattle.std.proofs.Common.{◌≡◌, ◌⊎◌, ℕ, Bool, true, false, if◌then◌else◌, ◌≤◌, ◌<◌, ◌/◌, ◌%◌, nat_lt, List, [], ◌∷◌, ◌++◌, length, inl, inr, refl, sym, ap, subst, ◌∙◌, append_assoc, arith, length-append}
use Rattle.std.specs.Fmt.{digit_glyph}
use Rattle.std.specs.List.{list_all}
use Rattle.std.proofs.lemmas.Bool.Decides.{nat_tests}
use Rattle.pt_val.specs.Name.{is_letter, is_name_byte}
use Rattle.pt_wire.specs.Printed.{PrintedByte}
use Rattle.pt_wire.proofs.PrintedBytes.{bytes_free}
use Rattle.pt_token.specs.declared.token.Kind.{Kind}
use Rattle.pt_token.specs.declared.token.Kind.TheVariants as kind
use Rattle.pt_lex.specs.Outcome.{Takes, Refused}
use Rattle.pt_lex.specs.Texts.{Closes, IsHexed}
use Rattle.pt_lex.specs.Tokens.{Spelled, TellsNumber, BeginsBytes}
use Rattle.pt_lex.specs.Words.{is_word}
use Rattle.pt_lex.specs.reading.Text.{bytes_kind}
use Rattle.pt_lex.proofs.ClosedLaws.{StartsElse, closed_one, closed_within}
use Rattle.pt_lex.proofs.Fronts.{and_left, and_right, tail_same}
use Rattle.pt_lex.proofs.WordLaws.{IsUnhexed, only_named}
use Rattle.pt_lex.proofs.Taking.{Wordlike, sort_of, sort_there, words_are_words}

no_quote : (digit : ℕ) → digit < 16 → digit_glyph false digit ≡ 34 → ⊥
no_quote digit small e = grind (arith, nat_tests, small, e)

heads : (a b : ℕ) (x y : List ℕ) → a ∷ x ≡ b ∷ y → a ≡ b
heads a b x y e = cc

pub bytes_else : StartsElse PrintedByte
bytes_else byte front rest more (is, small) e =
    no_quote (byte / 16) (omega arith) (heads (digit_glyph false (byte / 16)) 34 (digit_glyph false (byte % 16) ∷ rest) more (ap (λ l. l ++ rest) (sym is) ∙ e))

-- a word that stands at an `x` and a quote is the `x`
word_at_x : (lexeme inside more : List ℕ) → is_word lexeme ≡ true → 120 ∷ 34 ∷ inside ≡ lexeme ++ more → BeginsBytes lexeme more
word_at_x [] inside more formed e = absurd cc
word_at_x (a ∷ []) inside more formed e = (ap (λ c. c ∷ []) (heads a 120 more (34 ∷ inside) (sym e)), (inside, tail_same a 120 more (34 ∷ inside) (sym e)))
word_at_x (a ∷ b ∷ others) inside more formed e =
    let rest : b ∷ others ++ more ≡ 34 ∷ inside = tail_same a 120 (b ∷ others ++ more) (34 ∷ inside) (sym e) in
    let quote : b ≡ 34 = heads b 34 (others ++ more) inside rest in
    let named : is_name_byte b ≡ true = and_left (is_name_byte b) (list_all is_name_byte others) (and_right (is_letter a) (list_all is_name_byte (b ∷ others)) formed) in
    absurd (no b quote named) where
      no : (b : ℕ) → b ≡ 34 → is_name_byte b ≡ true → ⊥
      no b e named = let h : is_name_byte 34 ≡ true = subst (λ x. is_name_byte x ≡ true) e named in absurd cc

lt_no : (a b : ℕ) → a ≤ b → nat_lt b a ≡ false
lt_no a b le = grind (arith, le)

lt_yes : (a b : ℕ) → b < a → nat_lt b a ≡ true
lt_yes a b lt = grind (arith, lt)

abbrev Hexed : Kind → List ℕ → Type 0
Hexed which lexeme = (bytes : List ℕ) × IsHexed bytes lexeme × (which ≡ bytes_kind bytes)

-- a word has no quote
word_unhexed : (lexeme : List ℕ) → is_word lexeme ≡ true → IsUnhexed lexeme
word_unhexed lexeme formed inside is = let h : is_word (120 ∷ 34 ∷ inside) ≡ true = ap is_word (sym is) ∙ formed in absurd cc

named_or_hexed : (which : Kind) (lexeme : List ℕ) → Spelled which lexeme → sort_of which ≡ Wordlike → IsUnhexed lexeme ⊎ Hexed which lexeme
named_or_hexed (kind.Word which) lexeme s k = inl (word_unhexed lexeme (ap is_word s ∙ words_are_words which))
named_or_hexed (kind.Name name) lexeme s k = inl (word_unhexed lexeme s.0.0)
named_or_hexed kind.LongName lexeme s k = inl (word_unhexed lexeme s.0.0)
named_or_hexed (kind.Bytes bytes) lexeme s k = inr (bytes, s.0, rw (lt_no (length bytes) 64 s.1) refl)
named_or_hexed kind.LongBytes lexeme s k = inr (s.0, s.1, rw (lt_yes (length s.0) 64 s.2) refl)
named_or_hexed other lexeme s k = absurd cc

-- what stands at an `x` and a quote: the letter alone, or bytes
at_x : (which : Kind) (lexeme inside more : List ℕ) → Spelled which lexeme → 120 ∷ 34 ∷ inside ≡ lexeme ++ more → sort_of which ≡ Wordlike
    → BeginsBytes lexeme more ⊎ Hexed which lexeme
at_x (kind.Word which) lexeme inside more s e k = inl (word_at_x lexeme inside more (ap is_word s ∙ words_are_words which) e)
at_x (kind.Name name) lexeme inside more s e k = inl (word_at_x lexeme inside more s.0.0 e)
at_x kind.LongName lexeme inside more s e k = inl (word_at_x lexeme inside more s.0.0 e)
at_x (kind.Bytes bytes) lexeme inside more s e k = inr (bytes, s.0, rw (lt_no (length bytes) 64 s.1) refl)
at_x kind.LongBytes lexeme inside more s e k = inr (s.0, s.1, rw (lt_yes (length s.0) 64 s.2) refl)
at_x other lexeme inside more s e k = absurd cc

-- one word, name or bytes is spelled so
pub only_lettered : (which other : Kind) (lexeme : List ℕ) → Spelled which lexeme → Spelled other lexeme → sort_of which ≡ Wordlike → sort_of other ≡ Wordlike → which ≡ other
only_lettered which other lexeme s t e k = cases (named_or_hexed which lexeme s e) (named_or_hexed other lexeme t k) where
  cases : IsUnhexed lexeme ⊎ Hexed which lexeme → IsUnhexed lexeme ⊎ Hexed other lexeme → which ≡ other
  cases (inl apart) (inl also) = only_named which lexeme apart s e ∙ sym (only_named other lexeme apart t k)
  cases (inl apart) (inr (bytes, hexed, is)) = absurd (apart hexed.0 hexed.2)
  cases (inr (bytes, hexed, is)) (inl apart) = absurd (apart hexed.0 hexed.2)
  cases (inr (bytes, hexed, is)) (inr (list, also, same)) =
      let inside = tail_same 34 34 hexed.0 also.0 (tail_same 120 120 (34 ∷ hexed.0) (34 ∷ also.0) (sym hexed.2 ∙ also.2)) in
      let one = closed_one PrintedByte bytes_free bytes_else bytes list also.0 [] [] (subst (λ i. Closes PrintedByte bytes i []) inside hexed.1) also.1 in
      is ∙ ap bytes_kind one.0 ∙ sym same

there : (which : Kind) (lexeme inside more : List ℕ) → Spelled which lexeme → 120 ∷ 34 ∷ inside ≡ lexeme ++ more → BeginsBytes lexeme more ⊎ Hexed which lexeme
there which lexeme inside more s e = at_x which lexeme inside more s e (sort_there which 120 (34 ∷ inside) lexeme more s e)

bytes_tells : (bytes rest : List ℕ) → TellsNumber (bytes_kind bytes) rest
bytes_tells bytes rest = sized (nat_lt 64 (length bytes)) refl where
  sized : (b : Bool) → nat_lt 64 (length bytes) ≡ b → TellsNumber (if nat_lt 64 (length bytes) then kind.LongBytes else kind.Bytes bytes) rest
  sized true e = rw e tt
  sized false e = rw e tt

kind_spelled : (bytes lexeme : List ℕ) → IsHexed bytes lexeme → Spelled (bytes_kind bytes) lexeme
kind_spelled bytes lexeme q = cases (nat_lt 64 (length bytes)) refl where
  cases : (b : Bool) → nat_lt 64 (length bytes) ≡ b → Spelled (if nat_lt 64 (length bytes) then kind.LongBytes else kind.Bytes bytes) lexeme
  cases true e = rw e (bytes, q, grind (arith, e))
  cases false e = rw e (q, grind (arith, e))

-- the bytes that stand there are closed behind their first quote
closed_there : (inside bytes lexeme more : List ℕ) → IsHexed bytes lexeme → 120 ∷ 34 ∷ inside ≡ lexeme ++ more → Closes PrintedByte bytes inside more
closed_there inside bytes lexeme more (quoted, closes, is) e =
    let parts : inside ≡ quoted ++ more = tail_same 34 34 inside (quoted ++ more) (tail_same 120 120 (34 ∷ inside) (34 ∷ quoted ++ more) (e ∙ ap (λ l. l ++ more) is)) in
    subst (λ t. Closes PrintedByte bytes t more) (sym parts) (closed_within PrintedByte bytes quoted more closes)

pub bytes_taken : (inside bytes rest : List ℕ) → Closes PrintedByte bytes inside rest → Takes (bytes_kind bytes) (120 ∷ 34 ∷ inside) rest
bytes_taken inside bytes rest closes = record {
  lexeme = lexeme;
  parts = whole;
  spelled = kind_spelled bytes lexeme (closes.0 ++ 34 ∷ [], (closes.0, closes.1, refl), refl);
  apart = λ b. not_alone b.0;
  longest = λ other longer more spelled e. longest other longer more e (there other longer inside more spelled e);
  only = λ other spelled tells. only other (there other lexeme inside rest spelled whole);
  tells = bytes_tells bytes rest;
} where
  lexeme : List ℕ
  lexeme = 120 ∷ 34 ∷ closes.0 ++ 34 ∷ []

  whole : 120 ∷ 34 ∷ inside ≡ lexeme ++ rest
  whole = ap (λ l. 120 ∷ 34 ∷ l) (closes.2 ∙ sym (append_assoc closes.0 (34 ∷ []) rest))

  not_alone : lexeme ≡ 120 ∷ [] → ⊥
  not_alone e = let h : ◌≡◌ {A = List ℕ} (34 ∷ closes.0 ++ 34 ∷ []) [] = tail_same 120 120 (34 ∷ closes.0 ++ 34 ∷ []) [] e in absurd cc

  longest : (other : Kind) (longer more : List ℕ) → 120 ∷ 34 ∷ inside ≡ longer ++ more → BeginsBytes longer more ⊎ Hexed other longer → length longer ≤ length lexeme
  longest other longer more e (inl (alone, after)) = omega (arith, ap length alone)
  longest other longer more e (inr (list, hexed, is)) =
      let both = closed_one PrintedByte bytes_free bytes_else bytes list inside rest more closes (closed_there inside list longer more hexed e) in
      omega (arith, ap length both.1, ap length e, ap length whole, length-append longer more, length-append lexeme rest)

  only : (other : Kind) → BeginsBytes lexeme rest ⊎ Hexed other lexeme → other ≡ bytes_kind bytes
  only other (inl (alone, after)) = absurd (not_alone alone)
  only other (inr (list, hexed, is)) =
      let both = closed_one PrintedByte bytes_free bytes_else bytes list inside rest rest closes (closed_there inside list lexeme rest hexed whole) in
      is ∙ ap bytes_kind (sym both.0)

pub bytes_refused : (inside : List ℕ) → ((bytes rest : List ℕ) → Closes PrintedByte bytes inside rest → ⊥) → Refused (120 ∷ 34 ∷ inside)
bytes_refused inside none which lexeme rest spelled e = from (there which lexeme inside rest spelled e) where
  from : BeginsBytes lexeme rest ⊎ Hexed which lexeme → BeginsBytes lexeme rest
  from (inl begins) = begins
  from (inr (bytes, hexed, is)) = absurd (none bytes rest (closed_there inside bytes lexeme rest hexed e))
