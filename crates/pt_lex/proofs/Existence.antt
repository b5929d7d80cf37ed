-- Every text has its tokens.
use Rattle.std.proofs.Common.{◌≡◌, ◌≢◌, ◌⊎◌, ℕ, Bool, true, false, ◌==◌, ◌||◌, ◌≤◌, ◌<◌, ◌+◌, ◌*◌, ◌/◌, ◌%◌, nat_le, zero, suc, List, [], ◌∷◌, ◌++◌, length, take, Option, Some, None, inl, inr, refl, sym, ap, subst, ◌∙◌, append_assoc, arith, length-append, true≢false}
use Rattle.std.specs.Char.{IsScalar}
use lib.Utf8.{scalar}
use Rattle.std.specs.Fmt.{digit_glyph}
use Rattle.std.specs.Str.{IsUtf8, IsValidUpTo, chars, is_utf8}
use Rattle.std.proofs.lemmas.Bool.Decides.{nat_tests}
use Rattle.std.proofs.lemmas.List.{take_all}
use Rattle.std.proofs.lemmas.Str.{IsUtf8-from_is_utf8, is_utf8-from_IsUtf8}
use Rattle.pt_val.specs.declared.place.Place.{Place}
use Rattle.pt_val.specs.Name.{is_digit, is_letter}
use Rattle.pt_wire.specs.Printed.{PrintedByte}
use Rattle.pt_wire.specs.Spelling.{Splits}
use Rattle.pt_wire.proofs.Chains.{IsPrefixFree}
use Rattle.pt_wire.proofs.PrintedBytes.{bytes_free}
use Rattle.pt_token.specs.declared.token.Kind.{Kind}
use Rattle.pt_token.specs.declared.token.Kind.TheVariants as kind
use Rattle.pt_token.specs.declared.token.Token.{Token}
use Rattle.pt_token.specs.Ending.{is_last}
use Rattle.pt_lex.specs.Lexing.{Lexed, NotUtf8At, TokensOf, token_behind}
use Rattle.pt_lex.specs.Outcome.{Outcome}
use Rattle.pt_lex.specs.Places.{place_behind}
use Rattle.pt_lex.specs.Texts.{Closes, IsCode, SpellsChar, hex_value, is_hex, is_plain}
use Rattle.pt_lex.specs.reading.Gap.{gap_on}
use Rattle.pt_lex.specs.reading.Mark.{mark_token}
use Rattle.pt_lex.specs.reading.Number.{minus_token, number_token}
use Rattle.pt_lex.specs.reading.Text.{bytes_kind, code_on, text_kind}
use Rattle.pt_lex.specs.reading.Word.{before, word_token}
use Rattle.pt_lex.proofs.CharLaws.{Escaped, Itself, ByCode, char_parts, code_there, coded_there, no_code_there, no_scalar_there, plain_there, quoted_there}
use Rattle.pt_lex.proofs.ClosedLaws.{StartsElse, closed_end, closed_first, closed_rest}
use Rattle.pt_lex.proofs.Encodings.{encoded_chars}
use Rattle.pt_lex.proofs.GapLaws.{found_gap}
use Rattle.pt_lex.proofs.HexedLaws.{bytes_else, bytes_refused, bytes_taken}
use Rattle.pt_lex.proofs.LexedLaws.{Step, step}
use Rattle.pt_lex.proofs.MarkLaws.{mark_outcome}
use Rattle.pt_lex.proofs.MinusLaws.{minus_outcome}
use Rattle.pt_lex.proofs.NumberLaws.{number_outcome}
use Rattle.pt_lex.proofs.TextLaws.{chars_else, chars_free, text_refused, text_taken}
use Rattle.pt_lex.proofs.WordLaws.{word_outcome}

-- something is spelled there, or nothing is
abbrev Decided : {A : Type 0} → (A → List ℕ → Type 0) → List ℕ → Type 0
Decided {A} Spells text = ((value : A) × (rest : List ℕ) × Splits Spells value text rest) ⊎ ((value : A) (rest : List ℕ) → Splits Spells value text rest → ⊥)

-- a list is closed there, or none is
abbrev Closed : {A : Type 0} → (A → List ℕ → Type 0) → List ℕ → Type 0
Closed {A} Spells text = ((list : List A) × (rest : List ℕ) × Closes Spells list text rest) ⊎ ((list : List A) (rest : List ℕ) → Closes Spells list text rest → ⊥)

closed_step : {A : Type 0} (Spells : A → List ℕ → Type 0) → IsPrefixFree Spells → StartsElse Spells → ((text : List ℕ) → Decided Spells text) → (n first : ℕ) (text : List ℕ)
    → length text ≤ n → ((after : List ℕ) → length after ≤ n → Closed Spells after) → Closed Spells (first ∷ text)
closed_step {A} Spells free else decide n first text le again = at (first == 34) refl where
  nil : (xs : List ℕ) → xs ++ [] ≡ xs
  nil [] = refl
  nil (x ∷ xs) = ap (λ t. x ∷ t) (nil xs)

  behind : (value : A) (front after : List ℕ) → Spells value front → first ∷ text ≡ front ++ after → Closed Spells after → Closed Spells (first ∷ text)
  behind value front after spelled parts (inl (list, rest, (inside, chain, whole))) =
      inl (value ∷ list, rest, (front ++ inside, (front, inside, spelled, chain, refl), parts ∙ ap (λ a. front ++ a) whole ∙ sym (append_assoc front inside (34 ∷ rest))))
  behind value front after spelled parts (inr none) = inr (λ list rest closes.
      let tail = closed_rest Spells free else (value ∷ []) list front after rest (front, [], spelled, refl, sym (nil front)) (subst (λ t. Closes Spells list t rest) parts closes) in
      none tail.0 rest tail.2)

  shorter : (value : A) (front after : List ℕ) → Spells value front → first ∷ text ≡ front ++ after → length after ≤ n
  shorter value [] after spelled parts = absurd (free.empty value spelled)
  shorter value (c ∷ front) after spelled parts = omega (arith, le, ap length parts, length-append (c ∷ front) after)

  from : first ≢ 34 → Decided Spells (first ∷ text) → Closed Spells (first ∷ text)
  from other (inl (value, after, (front, spelled, parts))) = behind value front after spelled parts (again after (shorter value front after spelled parts))
  from other (inr none) = inr (λ list rest closes. let there = closed_first Spells list first text rest other closes in none there.0 there.1 there.2)

  at : (b : Bool) → (first == 34) ≡ b → Closed Spells (first ∷ text)
  at true e = let quote : first ≡ 34 = grind (arith, e) in inl ([], text, ([], refl, ap (λ c. c ∷ text) quote))
  at false e = let other : first ≢ 34 = grind (arith, e) in from other (decide (first ∷ text))

closed_or_not : {A : Type 0} (Spells : A → List ℕ → Type 0) → IsPrefixFree Spells → StartsElse Spells → ((text : List ℕ) → Decided Spells text) → (n : ℕ) (text : List ℕ) → length text ≤ n → Closed Spells text
closed_or_not Spells free else decide n [] le = inr (closed_end Spells)
closed_or_not Spells free else decide zero (first ∷ text) le = absurd (omega arith)
closed_or_not Spells free else decide (suc n) (first ∷ text) le = closed_step Spells free else decide n first text (omega arith) (λ after short. closed_or_not Spells free else decide n after short)

scalar_or_not : (code : ℕ) → IsScalar code ⊎ (IsScalar code → ⊥)
scalar_or_not code = cases _ refl where
  cases : (b : Bool) → scalar code ≡ b → IsScalar code ⊎ (IsScalar code → ⊥)
  cases true e = inl e
  cases false e = inr (λ held. true≢false (sym held ∙ e))

code_or_not : (text : List ℕ) → Decided IsCode text
code_or_not [] = inr (λ value rest there. denied there) where
  denied : {value : ℕ} {rest : List ℕ} → Splits IsCode value [] rest → ⊥
  denied (front, (digits, all, some, few, number, scalar, whole), parts) = absurd cc
code_or_not (first ∷ text) = at (first == 123) refl where
  braced : (c : Option (ℕ × List ℕ)) → code_on 0 0 text ≡ c → Decided IsCode (123 ∷ text)
  braced None e = inr (no_code_there text e)
  braced (Some (code, rest)) e = valid (scalar_or_not code) where
    valid : IsScalar code ⊎ (IsScalar code → ⊥) → Decided IsCode (123 ∷ text)
    valid (inl scalar) = inl (code, rest, code_there text code rest e scalar)
    valid (inr denied) = inr (no_scalar_there text code rest e denied)

  at : (b : Bool) → (first == 123) ≡ b → Decided IsCode (first ∷ text)
  at true e = let brace : first ≡ 123 = grind (arith, e) in subst (λ c. Decided IsCode (c ∷ text)) (sym brace) (braced (code_on 0 0 text) refl)
  at false e = let other : first ≢ 123 = grind (arith, e) in inr (λ value rest there. denied value rest other there) where
    denied : (value : ℕ) (rest : List ℕ) → first ≢ 123 → Splits IsCode value (first ∷ text) rest → ⊥
    denied value rest other (front, (digits, all, some, few, number, scalar, whole), parts) =
        let e : first ∷ text ≡ (123 ∷ digits ++ 125 ∷ []) ++ rest = parts ∙ ap (λ f. f ++ rest) whole in
        other (head first 123 text ((digits ++ 125 ∷ []) ++ rest) e) where
          head : (a b : ℕ) (x y : List ℕ) → a ∷ x ≡ b ∷ y → a ≡ b
          head a b x y e = cc

escaped_or_not : (text : List ℕ) → ((char : ℕ) × (rest : List ℕ) × Escaped char text rest) ⊎ ((char : ℕ) (rest : List ℕ) → Escaped char text rest → ⊥)
escaped_or_not [] = inr (λ char rest there. denied char rest there) where
  denied : (char : ℕ) (rest : List ℕ) → Escaped char [] rest → ⊥
  denied char rest (Itself quoted is) = absurd cc
  denied char rest (ByCode code is there) = absurd cc
escaped_or_not (first ∷ text) = at (first == 34 || first == 92) (first == 117) refl refl where
  head : (a b : ℕ) (x y : List ℕ) → a ∷ x ≡ b ∷ y → a ≡ b
  head a b x y e = cc

  tail : (a b : ℕ) (x y : List ℕ) → a ∷ x ≡ b ∷ y → x ≡ y
  tail a b x y e = cc

  not_itself : (first == 34 || first == 92) ≡ false → (char : ℕ) → (char == 34 || char == 92) ≡ true → first ≡ char → ⊥
  not_itself denied char held e = true≢false (sym (subst (λ c. (c == 34 || c == 92) ≡ true) (sym e) held) ∙ denied)

  coded : (first == 34 || first == 92) ≡ false → first ≡ 117 → Decided IsCode text → ((char : ℕ) × (rest : List ℕ) × Escaped char (first ∷ text) rest) ⊎ ((char : ℕ) (rest : List ℕ) → Escaped char (first ∷ text) rest → ⊥)
  coded denied u (inl (char, rest, there)) = inl (char, rest, ByCode text (ap (λ c. c ∷ text) u) there)
  coded denied u (inr none) = inr refuse where
    refuse : (char : ℕ) (rest : List ℕ) → Escaped char (first ∷ text) rest → ⊥
    refuse char rest (Itself quoted is) = not_itself denied char quoted (head first char text rest is)
    refuse char rest (ByCode code is there) = none char rest (subst (λ t. Splits IsCode char t rest) (sym (tail first 117 text code is)) there)

  at : (q u : Bool) → (first == 34 || first == 92) ≡ q → (first == 117) ≡ u → ((char : ℕ) × (rest : List ℕ) × Escaped char (first ∷ text) rest) ⊎ ((char : ℕ) (rest : List ℕ) → Escaped char (first ∷ text) rest → ⊥)
  at true u q_is u_is = inl (first, text, Itself q_is refl)
  at false true q_is u_is = let letter : first ≡ 117 = grind (arith, u_is) in coded q_is letter (code_or_not text)
  at false false q_is u_is = let other : first ≢ 117 = grind (arith, u_is) in inr (refuse other) where
    refuse : first ≢ 117 → (char : ℕ) (rest : List ℕ) → Escaped char (first ∷ text) rest → ⊥
    refuse other char rest (Itself quoted is) = not_itself q_is char quoted (head first char text rest is)
    refuse other char rest (ByCode code is there) = other (head first 117 text code is)

escaped_there : (char : ℕ) (text rest : List ℕ) → Escaped char text rest → Splits SpellsChar char (92 ∷ text) rest
escaped_there char text rest (Itself quoted is) = subst (λ t. Splits SpellsChar char (92 ∷ t) rest) (sym is) (quoted_there char rest quoted)
escaped_there char text rest (ByCode code is there) = subst (λ t. Splits SpellsChar char (92 ∷ t) rest) (sym is) (coded_there char code rest there)

char_or_not : (text : List ℕ) → Decided SpellsChar text
char_or_not [] = inr denied where
  denied : (char : ℕ) (rest : List ℕ) → Splits SpellsChar char [] rest → ⊥
  denied char rest ([], spelled, parts) = chars_free.empty char spelled
  denied char rest (c ∷ front, spelled, parts) = absurd cc
char_or_not (first ∷ text) = at (is_plain first) (first == 92) refl refl where
  slashed : is_plain first ≡ false → first ≡ 92 → ((char : ℕ) × (rest : List ℕ) × Escaped char text rest) ⊎ ((char : ℕ) (rest : List ℕ) → Escaped char text rest → ⊥) → Decided SpellsChar (first ∷ text)
  slashed denied slash (inl (char, rest, there)) = inl (char, rest, subst (λ c. Splits SpellsChar char (c ∷ text) rest) (sym slash) (escaped_there char text rest there))
  slashed denied slash (inr none) = inr refuse where
    refuse : (char : ℕ) (rest : List ℕ) → Splits SpellsChar char (first ∷ text) rest → ⊥
    refuse char rest there = by (char_parts char first text rest there) where
      by : ((is_plain first ≡ true) × (first ≡ char) × (text ≡ rest)) ⊎ ((first ≡ 92) × Escaped char text rest) → ⊥
      by (inl (plain, is, same)) = true≢false (sym plain ∙ denied)
      by (inr (is, escaped)) = none char rest escaped

  at : (p s : Bool) → is_plain first ≡ p → (first == 92) ≡ s → Decided SpellsChar (first ∷ text)
  at true s p_is s_is = inl (first, text, plain_there first text p_is)
  at false true p_is s_is = let slash : first ≡ 92 = grind (arith, s_is) in slashed p_is slash (escaped_or_not text)
  at false false p_is s_is = let other : first ≢ 92 = grind (arith, s_is) in inr (refuse other) where
    refuse : first ≢ 92 → (char : ℕ) (rest : List ℕ) → Splits SpellsChar char (first ∷ text) rest → ⊥
    refuse other char rest there = by (char_parts char first text rest there) where
      by : ((is_plain first ≡ true) × (first ≡ char) × (text ≡ rest)) ⊎ ((first ≡ 92) × Escaped char text rest) → ⊥
      by (inl (plain, is, same)) = true≢false (sym plain ∙ p_is)
      by (inr (is, escaped)) = other is

glyph_is : (digit : ℕ) → is_hex digit ≡ true → (hex_value digit < 16) × (digit_glyph false (hex_value digit) ≡ digit)
glyph_is digit e = (grind (arith, nat_tests, e), grind (arith, nat_tests, e))

is_glyph : (value : ℕ) → value < 16 → is_hex (digit_glyph false value) ≡ true
is_glyph value small = grind (arith, nat_tests, small)

byte_or_not : (text : List ℕ) → Decided PrintedByte text
byte_or_not [] = inr denied where
  denied : (byte : ℕ) (rest : List ℕ) → Splits PrintedByte byte [] rest → ⊥
  denied byte rest ([], spelled, parts) = bytes_free.empty byte spelled
  denied byte rest (c ∷ front, spelled, parts) = absurd cc
byte_or_not (first ∷ []) = inr denied where
  denied : (byte : ℕ) (rest : List ℕ) → Splits PrintedByte byte (first ∷ []) rest → ⊥
  denied byte rest (front, (is, small), parts) = omega (arith, ap length parts, ap length is, length-append front rest)
byte_or_not (first ∷ second ∷ text) = at (is_hex first) (is_hex second) refl refl where
  both : (byte : ℕ) (rest : List ℕ) → Splits PrintedByte byte (first ∷ second ∷ text) rest → (digit_glyph false (byte / 16) ≡ first) × (digit_glyph false (byte % 16) ≡ second) × (byte < 256)
  both byte rest (front, (is, small), parts) =
      let e : first ∷ second ∷ text ≡ digit_glyph false (byte / 16) ∷ digit_glyph false (byte % 16) ∷ rest = parts ∙ ap (λ f. f ++ rest) is in
      (cc, cc, small)

  refuse : (high : is_hex first ≡ false) → (byte : ℕ) (rest : List ℕ) → Splits PrintedByte byte (first ∷ second ∷ text) rest → ⊥
  refuse denied byte rest there = let b = both byte rest there in true≢false (sym (subst (λ d. is_hex d ≡ true) b.0 (is_glyph (byte / 16) (omega (arith, b.2)))) ∙ denied)

  deny : (low : is_hex second ≡ false) → (byte : ℕ) (rest : List ℕ) → Splits PrintedByte byte (first ∷ second ∷ text) rest → ⊥
  deny denied byte rest there = let b = both byte rest there in true≢false (sym (subst (λ d. is_hex d ≡ true) b.1 (is_glyph (byte % 16) (omega (arith, b.2)))) ∙ denied)

  spelled : is_hex first ≡ true → is_hex second ≡ true → Splits PrintedByte (16 * hex_value first + hex_value second) (first ∷ second ∷ text) text
  spelled high low =
      let a = glyph_is first high in
      let b = glyph_is second low in
      let front : (16 * hex_value first + hex_value second) / 16 ≡ hex_value first = omega (arith, a.0, b.0) in
      let last : (16 * hex_value first + hex_value second) % 16 ≡ hex_value second = omega (arith, a.0, b.0) in
      (first ∷ second ∷ [], (rw (front, last, a.1, b.1) refl, omega (arith, a.0, b.0)), refl)

  at : (h l : Bool) → is_hex first ≡ h → is_hex second ≡ l → Decided PrintedByte (first ∷ second ∷ text)
  at true true h_is l_is = inl (16 * hex_value first + hex_value second, text, spelled h_is l_is)
  at true false h_is l_is = inr (deny l_is)
  at false l h_is l_is = inr (refuse h_is)

abbrev Some_outcome : List ℕ → Type 0
Some_outcome text = (which : Kind) × (after : List ℕ) × Outcome text which after

quoted_outcome : (inside : List ℕ) → Closed SpellsChar inside → Some_outcome (34 ∷ inside)
quoted_outcome inside (inl (chars, rest, closes)) = (text_kind chars, rest, inl (text_taken inside chars rest closes))
quoted_outcome inside (inr none) = (kind.Malformed, 34 ∷ inside, inr (refl, text_refused inside none))

hexed_outcome : (inside : List ℕ) → Closed PrintedByte inside → Some_outcome (120 ∷ 34 ∷ inside)
hexed_outcome inside (inl (bytes, rest, closes)) = (bytes_kind bytes, rest, inl (bytes_taken inside bytes rest closes))
hexed_outcome inside (inr none) = (kind.Malformed, 120 ∷ 34 ∷ inside, inr (refl, bytes_refused inside none))

lettered_outcome : (first : ℕ) (text : List ℕ) → is_letter first ≡ true → Some_outcome (first ∷ text)
lettered_outcome first [] letter = let w = word_token (first ∷ []) in (w.0, w.1, word_outcome first [] letter (λ inside e. absurd cc))
lettered_outcome first (second ∷ text) letter = at (first == 120) (second == 34) refl refl where
  apart : first ≢ 120 ⊎ (second ≢ 34) → (inside : List ℕ) → first ∷ second ∷ text ≡ 120 ∷ 34 ∷ inside → ⊥
  apart (inl denied) inside e = denied cc
  apart (inr denied) inside e = denied cc

  word : (first ≢ 120 ⊎ (second ≢ 34)) → Some_outcome (first ∷ second ∷ text)
  word denied = let w = word_token (first ∷ second ∷ text) in (w.0, w.1, word_outcome first (second ∷ text) letter (apart denied))

  at : (x q : Bool) → (first == 120) ≡ x → (second == 34) ≡ q → Some_outcome (first ∷ second ∷ text)
  at true true x_is q_is =
      let x : first ≡ 120 = grind (arith, x_is) in
      let q : second ≡ 34 = grind (arith, q_is) in
      subst (λ a. Some_outcome (a ∷ second ∷ text)) (sym x) (subst (λ b. Some_outcome (120 ∷ b ∷ text)) (sym q) (hexed_outcome text (closed_or_not PrintedByte bytes_free bytes_else byte_or_not (length text) text (omega arith))))
  at true false x_is q_is = let denied : second ≢ 34 = grind (arith, q_is) in word (inr denied)
  at false q x_is q_is = let denied : first ≢ 120 = grind (arith, x_is) in word (inl denied)

some_outcome : (text : List ℕ) → Some_outcome text
some_outcome [] = (kind.End, [], refl)
some_outcome (first ∷ text) = at (is_letter first) (is_digit first) (first == 34) (first == 45) refl refl refl refl where
  at : (l d q m : Bool) → is_letter first ≡ l → is_digit first ≡ d → (first == 34) ≡ q → (first == 45) ≡ m → Some_outcome (first ∷ text)
  at true d q m l_is d_is q_is m_is = lettered_outcome first text l_is
  at false true q m l_is d_is q_is m_is = let n = number_token (first ∷ text) in (n.0, n.1, number_outcome first text d_is)
  at false false true m l_is d_is q_is m_is =
      let quote : first ≡ 34 = grind (arith, q_is) in
      subst (λ c. Some_outcome (c ∷ text)) (sym quote) (quoted_outcome text (closed_or_not SpellsChar chars_free chars_else char_or_not (length text) text (omega arith)))
  at false false false true l_is d_is q_is m_is =
      let sign : first ≡ 45 = grind (arith, m_is) in
      let n = minus_token text in
      subst (λ c. Some_outcome (c ∷ text)) (sym sign) (n.0, n.1, minus_outcome text)
  at false false false false l_is d_is q_is m_is = let n = mark_token (first ∷ text) in (n.0, n.1, mark_outcome first text (rw (l_is, d_is, q_is, m_is) refl))

-- what is left has its tokens
lexed_step : (n : ℕ) (done left : List ℕ) → length left < suc n → ((more rest : List ℕ) → length rest < n → (tokens : List Token) × Lexed more rest tokens) → Some_outcome (gap_on false left)
    → (tokens : List Token) × Lexed done left tokens
lexed_step n done left lt again (which, after, outcome) = by (is_last which) refl where
  s : Step done left (gap_on false left) which after
  s = step done left (gap_on false left) which after (found_gap left) outcome

  by : (b : Bool) → is_last which ≡ b → (tokens : List Token) × Lexed done left tokens
  by true e = (token_behind which (done ++ before (gap_on false left) left) ∷ [], s.last e)
  by false e =
      let shorter = s.shorter e in
      let more = again ((done ++ before (gap_on false left) left) ++ before after (gap_on false left)) after (omega (arith, lt, shorter.0)) in
      (token_behind which (done ++ before (gap_on false left) left) ∷ more.0, s.more e more.0 more.1)

some_lexed : (n : ℕ) (done left : List ℕ) → length left < n → (tokens : List Token) × Lexed done left tokens
some_lexed zero done left lt = absurd (omega arith)
some_lexed (suc n) done left lt = lexed_step n done left lt (λ more rest short. some_lexed n more rest short) (some_outcome (gap_on false left))

-- the longest front that is UTF-8, of those of at most so many bytes
front_of : (bytes : List ℕ) (m : ℕ) → (n : ℕ) × (n ≤ m) × IsUtf8 (take n bytes) × ((k : ℕ) → n < k → k ≤ m → IsUtf8 (take k bytes) → ⊥)
front_of bytes zero = (0, omega arith, ([], (refl, refl)), λ k above within. absurd (omega arith))
front_of bytes (suc m) = at (is_utf8 (take (suc m) bytes)) refl (front_of bytes m) where
  at : (b : Bool) → is_utf8 (take (suc m) bytes) ≡ b → (n : ℕ) × (n ≤ m) × IsUtf8 (take n bytes) × ((k : ℕ) → n < k → k ≤ m → IsUtf8 (take k bytes) → ⊥)
      → (n : ℕ) × (n ≤ suc m) × IsUtf8 (take n bytes) × ((k : ℕ) → n < k → k ≤ suc m → IsUtf8 (take k bytes) → ⊥)
  at true e below = (suc m, omega arith, IsUtf8-from_is_utf8 (take (suc m) bytes) e, λ k above within. absurd (omega arith))
  at false e (n, le, front, longest) = (n, omega (arith, le), front, λ k above within u. by (k == suc m) k above within u refl) where
    by : (b : Bool) (k : ℕ) → n < k → k ≤ suc m → IsUtf8 (take k bytes) → (k == suc m) ≡ b → ⊥
    by true k above within u is =
        let same : k ≡ suc m = grind (arith, is) in
        true≢false (sym (is_utf8-from_IsUtf8 (take (suc m) bytes) (subst (λ i. IsUtf8 (take i bytes)) same u)) ∙ e)
    by false k above within u is = longest k above (grind (arith, is, within)) u

pub some_tokens : (bytes : List ℕ) → ((tokens : List Token) × TokensOf bytes tokens) ⊎ ((place : Place) × NotUtf8At bytes place)
some_tokens bytes = at (is_utf8 bytes) refl where
  at : (b : Bool) → is_utf8 bytes ≡ b → ((tokens : List Token) × TokensOf bytes tokens) ⊎ ((place : Place) × NotUtf8At bytes place)
  at true e =
      let lexed = some_lexed (suc (length (chars bytes))) [] (chars bytes) (omega arith) in
      inl (lexed.0, (chars bytes, encoded_chars bytes (IsUtf8-from_is_utf8 bytes e), lexed.1))
  at false e = from (front_of bytes (length bytes)) where
    not_all : IsUtf8 bytes → ⊥
    not_all u = true≢false (sym (is_utf8-from_IsUtf8 bytes u) ∙ e)

    from : (n : ℕ) × (n ≤ length bytes) × IsUtf8 (take n bytes) × ((k : ℕ) → n < k → k ≤ length bytes → IsUtf8 (take k bytes) → ⊥)
        → ((tokens : List Token) × TokensOf bytes tokens) ⊎ ((place : Place) × NotUtf8At bytes place)
    from (n, le, front, longest) = inr (place_behind (chars (take n bytes)), (n, chars (take n bytes), up_to, encoded_chars (take n bytes) front, refl)) where
      past : (m : ℕ) → length bytes ≤ m → IsUtf8 (take m bytes) → ⊥
      past m above u = not_all (subst IsUtf8 (take_all m bytes above) u)

      short : (b : Bool) → (n == length bytes) ≡ b → n < length bytes
      short true is = let same : length bytes ≤ n = grind (arith, is) in absurd (past n same front)
      short false is = grind (arith, is, le)

      up_to : IsValidUpTo bytes n
      up_to = record { short = short (n == length bytes) refl; front = front; longest = λ m above u. by (nat_le m (length bytes)) m above u refl } where
        by : (b : Bool) (m : ℕ) → n < m → IsUtf8 (take m bytes) → nat_le m (length bytes) ≡ b → ⊥
        by true m above u is = longest m above (grind (arith, is)) u
        by false m above u is = past m (grind (arith, is)) u
