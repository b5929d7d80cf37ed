-- The tokens of a spelling.
use Rattle.std.proofs.Common.{◌≡◌, ◌≢◌, ℕ, true, false, ◌==◌, ◌&&◌, ◌||◌, not, ◌≤◌, ◌<◌, ◌-◌, List, [], ◌∷◌, ◌++◌, length, inl, inr, refl, sym, ap, subst, ◌∙◌, append_assoc, arith, length-append}
use Rattle.std.specs.List.{list_all}
use Rattle.std.proofs.lemmas.List.{append_cancel_right, take_all}
use Rattle.pt_val.specs.Name.{is_letter, is_digit, is_name_byte}
use Rattle.pt_val.specs.declared.place.Place.{Place}
use Rattle.pt_token.specs.declared.token.Token.{Token}
use Rattle.pt_token.specs.declared.token.Kind.{Kind}
use Rattle.pt_token.specs.declared.token.Kind.TheVariants as kind
use Rattle.pt_token.specs.declared.token.Mark.{Mark}
use Rattle.pt_token.specs.declared.token.Mark.TheVariants as mark
use Rattle.pt_ast.specs.declared.expr.CompareOp.TheVariants as compare
use Rattle.pt_lex.specs.Gaps.{is_blank, IsGap, IsLastGap, IsPastGap}
use Rattle.pt_token.specs.Ending.{is_last}
use Rattle.pt_lex.specs.Lexing.{Lexed, token_behind}
use Rattle.pt_lex.specs.Marks.{mark_text}
use Rattle.pt_lex.specs.Numbers.{is_number}
use Rattle.pt_lex.specs.Outcome.{Outcome, Refused, Takes}
use Rattle.pt_lex.specs.Places.{place_behind}
use Rattle.pt_lex.specs.Tokens.{Spelled}
use Rattle.pt_lex.specs.Words.{is_word, word_text}
use Rattle.pt_lex.specs.reading.Gap.{gap_on}
use Rattle.pt_lex.specs.reading.Word.{before}
use Rattle.pt_lex.proofs.Fronts.{and_left}
use Rattle.pt_lex.proofs.GapLaws.{Gap, Past, Ended, gap_read, last_gap_read}
use Rattle.pt_lex.proofs.Taking.{words_are_words}
use Rattle.pt_lex.proofs.MinusLaws.{past_digit}
use Rattle.pt_lex.proofs.WordLaws.{before_is}
use Rattle.pt_lex.proofs.TokenLaws.{takes_token, none_there, same_token}

past_letter : (char : ℕ) → is_letter char ≡ true → (is_blank char ≡ false) × (char ≢ 35)
past_letter char e = (grind (arith, e), grind (arith, e))

past_word : (text more : List ℕ) → is_word text ≡ true → IsPastGap (text ++ more)
past_word [] more e = absurd cc
past_word (first ∷ rest) more e = past_letter first (and_left (is_letter first) (list_all is_name_byte rest) e)

past_number : (text more : List ℕ) → is_number text ≡ true → IsPastGap (text ++ more)
past_number [] more e = absurd cc
past_number (first ∷ rest) more e =
    past_digit first (and_left (is_digit first) (list_all is_digit rest) (and_left (is_digit first && list_all is_digit rest) (not (first == 48) || length rest == 0) e))

past_minus : (text : List ℕ) → IsPastGap (45 ∷ text)
past_minus text = (refl, λ e. omega (arith, e))

past_quote : (text : List ℕ) → IsPastGap (34 ∷ text)
past_quote text = (refl, λ e. omega (arith, e))

past_mark : (which : Mark) (more : List ℕ) → IsPastGap (mark_text which ++ more)
past_mark (mark.Compare compare.Eq) more = (refl, λ e. omega (arith, e))
past_mark (mark.Compare compare.Ne) more = (refl, λ e. omega (arith, e))
past_mark (mark.Compare compare.Le) more = (refl, λ e. omega (arith, e))
past_mark (mark.Compare compare.Ge) more = (refl, λ e. omega (arith, e))
past_mark mark.OpenBrace more = (refl, λ e. omega (arith, e))
past_mark mark.CloseBrace more = (refl, λ e. omega (arith, e))
past_mark mark.OpenParen more = (refl, λ e. omega (arith, e))
past_mark mark.CloseParen more = (refl, λ e. omega (arith, e))
past_mark mark.OpenBracket more = (refl, λ e. omega (arith, e))
past_mark mark.CloseBracket more = (refl, λ e. omega (arith, e))
past_mark mark.Comma more = (refl, λ e. omega (arith, e))
past_mark mark.Semicolon more = (refl, λ e. omega (arith, e))
past_mark mark.Colon more = (refl, λ e. omega (arith, e))
past_mark mark.Dot more = (refl, λ e. omega (arith, e))
past_mark mark.Assign more = (refl, λ e. omega (arith, e))
past_mark (mark.Compare compare.Lt) more = (refl, λ e. omega (arith, e))
past_mark (mark.Compare compare.Gt) more = (refl, λ e. omega (arith, e))
past_mark mark.Plus more = (refl, λ e. omega (arith, e))
past_mark mark.Star more = (refl, λ e. omega (arith, e))
past_mark mark.Slash more = (refl, λ e. omega (arith, e))
past_mark mark.Percent more = (refl, λ e. omega (arith, e))

past_token : (which : Kind) (lexeme more : List ℕ) → Spelled which lexeme → IsPastGap (lexeme ++ more)
past_token (kind.Word which) lexeme more s = subst (λ l. IsPastGap (l ++ more)) (sym s) (past_word (word_text which) more (words_are_words which))
past_token (kind.Mark which) lexeme more s = subst (λ l. IsPastGap (l ++ more)) (sym s) (past_mark which more)
past_token (kind.Minus number) lexeme more s = subst (λ l. IsPastGap (l ++ more)) (sym s) (past_minus more)
past_token (kind.Number kept) lexeme more s = past_number lexeme more s.0
past_token (kind.Name name) lexeme more s = past_word lexeme more s.0.0
past_token kind.LongName lexeme more s = past_word lexeme more s.0.0
past_token (kind.Text chars) lexeme more s = subst (λ l. IsPastGap (l ++ more)) (sym s.0.2) (past_quote (s.0.0 ++ more))
past_token kind.LongText lexeme more s = subst (λ l. IsPastGap (l ++ more)) (sym s.1.2) (past_quote (s.1.0 ++ more))
past_token (kind.Bytes bytes) lexeme more s = subst (λ l. IsPastGap (l ++ more)) (sym s.0.2) (past_letter 120 refl)
past_token kind.LongBytes lexeme more s = subst (λ l. IsPastGap (l ++ more)) (sym s.1.2) (past_letter 120 refl)
past_token kind.Malformed lexeme more s = absurd s
past_token kind.End lexeme more s = absurd s

pub not_last : (which : Kind) (lexeme : List ℕ) → Spelled which lexeme → is_last which ≡ true → ⊥
not_last kind.Malformed lexeme s e = s
not_last kind.End lexeme s e = s
not_last other lexeme s e = absurd cc

pub no_empty : (which : Kind) (lexeme : List ℕ) → Spelled which lexeme → 0 < length lexeme
no_empty which [] s = absurd (past_token which [] [] s)
no_empty which (first ∷ rest) s = omega arith

-- one turn of the reader
pub record Step (done left rest : List ℕ) (which : Kind) (after : List ℕ) : Type 0 where
  pub last : is_last which ≡ true → Lexed done left (token_behind which (done ++ before rest left) ∷ [])
  pub more : is_last which ≡ false → (others : List Token) → Lexed ((done ++ before rest left) ++ before after rest) after others → Lexed done left (token_behind which (done ++ before rest left) ∷ others)
  pub parts : is_last which ≡ false → left ≡ (before rest left ++ before after rest) ++ after
  pub shorter : is_last which ≡ false → (length after < length left) × (length after ≤ length rest)

end_step : (done left after : List ℕ) → IsLastGap left → Step done left [] kind.End after
end_step done left after gap =
    let all : before [] left ≡ left = take_all (length left - 0) left (omega arith) in
    record {
      last = λ e. inl (gap, ap (λ g. token_behind kind.End (done ++ g)) all);
      more = λ e. absurd cc;
      parts = λ e. absurd cc;
      shorter = λ e. absurd cc;
    }

bad_step : (done left gap rest after : List ℕ) → IsGap gap → IsPastGap rest → left ≡ gap ++ rest → Refused rest → Step done left rest kind.Malformed after
bad_step done left gap rest after is past parts refused =
    let same : before rest left ≡ gap = ap (before rest) parts ∙ before_is gap rest in
    record {
      last = λ e. inr (gap, rest, is, parts, past, ap (λ g. token_behind kind.Malformed (done ++ g)) same, none_there rest refused);
      more = λ e. absurd cc;
      parts = λ e. absurd cc;
      shorter = λ e. absurd cc;
    }

token_step : (done left gap rest : List ℕ) (which : Kind) (after : List ℕ) → IsGap gap → left ≡ gap ++ rest → Takes which rest after → Step done left rest which after
token_step done left gap rest which after is parts t = record {
  last = λ e. absurd (not_last which t.lexeme t.spelled e);
  more = λ e. longer;
  parts = λ e. whole;
  shorter = λ e. (omega (arith, no_empty which t.lexeme t.spelled, ap length parts, length-append gap rest, ap length t.parts, length-append t.lexeme after), omega (arith, ap length t.parts, length-append t.lexeme after));
} where
  gap_is : before rest left ≡ gap
  gap_is = ap (before rest) parts ∙ before_is gap rest

  lexeme_is : before after rest ≡ t.lexeme
  lexeme_is = ap (before after) t.parts ∙ before_is t.lexeme after

  cut : left ≡ (gap ++ t.lexeme) ++ after
  cut = parts ∙ ap (λ r. gap ++ r) t.parts ∙ sym (append_assoc gap t.lexeme after)

  whole : left ≡ (before rest left ++ before after rest) ++ after
  whole = cut ∙ ap (λ g. (g ++ t.lexeme) ++ after) (sym gap_is) ∙ ap (λ l. (before rest left ++ l) ++ after) (sym lexeme_is)

  longer : (others : List Token) → Lexed ((done ++ before rest left) ++ before after rest) after others → Lexed done left (token_behind which (done ++ before rest left) ∷ others)
  longer [] lexed = absurd lexed
  longer (second ∷ others) lexed = (
    gap,
    t.lexeme,
    after,
    which,
    is,
    takes_token which rest after t,
    cut,
    ap (λ g. token_behind which (done ++ g)) gap_is,
    subst (λ g. Lexed ((done ++ g) ++ t.lexeme) after (second ∷ others)) gap_is (subst (λ l. Lexed ((done ++ before rest left) ++ l) after (second ∷ others)) lexeme_is lexed),
  )

pub step : (done left rest : List ℕ) (which : Kind) (after : List ℕ) → Gap left rest → Outcome rest which after → Step done left rest which after
step done left _ which after (Ended gap) e = subst (λ k. Step done left [] k after) (sym e) (end_step done left after gap)
step done left _ which after (Past gap [] is past parts) e = absurd past
step done left _ which after (Past gap (first ∷ text) is past parts) (inl t) = token_step done left gap (first ∷ text) which after is parts t
step done left _ which after (Past gap (first ∷ text) is past parts) (inr (bad, refused)) =
    subst (λ k. Step done left (first ∷ text) k after) (sym bad) (bad_step done left gap (first ∷ text) after is past parts refused)

-- one turn, over the tokens before
module _ (text done left rest : List ℕ) (tokens : List Token) (which : Kind) (after : List ℕ) (at : Place) (gap : Gap left rest) (read : Outcome rest which after)
    (place : at ≡ place_behind (done ++ before rest left)) (so_far : (more : List Token) → Lexed done left more → Lexed [] text (tokens ++ more)) where
  same_token_here : ◌≡◌ {A = Token} (token_behind which (done ++ before rest left)) (record { at = at; kind = which })
  same_token_here = ap (λ (p : Place). record { at = p; kind = which }) (sym place)

  pub last_turn : is_last which ≡ true → Lexed [] text (tokens ++ record { at = at; kind = which } ∷ [])
  last_turn e = subst (λ (t : Token). Lexed [] text (tokens ++ t ∷ [])) same_token_here (so_far (token_behind which (done ++ before rest left) ∷ []) ((step done left rest which after gap read).last e))

  pub more_turn : is_last which ≡ false → (more : List Token) → Lexed ((done ++ before rest left) ++ before after rest) after more → Lexed [] text ((tokens ++ record { at = at; kind = which } ∷ []) ++ more)
  more_turn e more lexed =
      subst (λ (t : Token). Lexed [] text ((tokens ++ t ∷ []) ++ more)) same_token_here
      (subst (Lexed [] text) (sym (append_assoc tokens (token_behind which (done ++ before rest left) ∷ []) more))
      (so_far (token_behind which (done ++ before rest left) ∷ more) ((step done left rest which after gap read).more e more lexed)))

same_gap : (left gap rest other more : List ℕ) → IsGap gap → IsPastGap rest → left ≡ gap ++ rest → IsGap other → IsPastGap more → left ≡ other ++ more → (gap ≡ other) × (rest ≡ more)
same_gap left gap rest other more is past parts also beyond pieces =
    let r : rest ≡ more = sym (ap (gap_on false) parts ∙ gap_read gap rest is past) ∙ ap (gap_on false) pieces ∙ gap_read other more also beyond in
    (append_cancel_right gap other rest (sym parts ∙ pieces ∙ ap (λ m. other ++ m) (sym r)), r)

ended_apart : (left gap rest : List ℕ) → IsLastGap left → IsGap gap → IsPastGap rest → left ≡ gap ++ rest → ⊥
ended_apart left gap rest last is past parts =
    let none : rest ≡ [] = sym (ap (gap_on false) parts ∙ gap_read gap rest is past) ∙ last_gap_read left last in
    subst IsPastGap none past

-- a spelling has one list of tokens
pub one_list : (done left : List ℕ) (tokens others : List Token) → Lexed done left tokens → Lexed done left others → tokens ≡ others
one_list done left [] others a b = absurd a
one_list done left (t ∷ ts) [] a b = absurd b
one_list done left (t ∷ []) (u ∷ []) (inl a) (inl b) = ap (λ x. x ∷ []) (a.1 ∙ sym b.1)
one_list done left (t ∷ []) (u ∷ []) (inl a) (inr (gap, rest, is, parts, past, at, none)) = absurd (ended_apart left gap rest a.0 is past parts)
one_list done left (t ∷ []) (u ∷ []) (inr (gap, rest, is, parts, past, at, none)) (inl b) = absurd (ended_apart left gap rest b.0 is past parts)
one_list done left (t ∷ []) (u ∷ []) (inr (gap, rest, is, parts, past, at, none)) (inr (other, more, also, pieces, beyond, place, no_more)) =
    let same = same_gap left gap rest other more is past parts also beyond pieces in
    ap (λ x. x ∷ []) (at ∙ ap (λ g. token_behind kind.Malformed (done ++ g)) same.0 ∙ sym place)
one_list done left (t ∷ []) (u ∷ v ∷ us) (inl a) (gap, lexeme, rest, which, is, token, parts, at, lexed) =
    absurd (ended_apart left gap (lexeme ++ rest) a.0 is (past_token which lexeme rest token.spelled) (parts ∙ append_assoc gap lexeme rest))
one_list done left (t ∷ []) (u ∷ v ∷ us) (inr (other, more, also, pieces, beyond, place, none)) (gap, lexeme, rest, which, is, token, parts, at, lexed) =
    let same = same_gap left other more gap (lexeme ++ rest) also beyond pieces is (past_token which lexeme rest token.spelled) (parts ∙ append_assoc gap lexeme rest) in
    absurd (none which lexeme rest token same.1)
one_list done left (t ∷ s ∷ ts) (u ∷ []) (gap, lexeme, rest, which, is, token, parts, at, lexed) (inl b) =
    absurd (ended_apart left gap (lexeme ++ rest) b.0 is (past_token which lexeme rest token.spelled) (parts ∙ append_assoc gap lexeme rest))
one_list done left (t ∷ s ∷ ts) (u ∷ []) (gap, lexeme, rest, which, is, token, parts, at, lexed) (inr (other, more, also, pieces, beyond, place, none)) =
    let same = same_gap left other more gap (lexeme ++ rest) also beyond pieces is (past_token which lexeme rest token.spelled) (parts ∙ append_assoc gap lexeme rest) in
    absurd (none which lexeme rest token same.1)
one_list done left (t ∷ s ∷ ts) (u ∷ v ∷ us) (gap, lexeme, rest, which, is, token, parts, at, lexed) (other, longer, more, also_which, also, also_token, pieces, place, also_lexed) =
    ap (λ x. x ∷ s ∷ ts) (at ∙ ap (λ g. token_behind which (done ++ g)) gaps.0 ∙ ap (λ k. token_behind k (done ++ other)) tokens_same.0 ∙ sym place)
    ∙ ap (λ l. u ∷ l) (one_list ((done ++ gap) ++ lexeme) rest (s ∷ ts) (v ∷ us) lexed
    (subst (λ g. Lexed ((done ++ g) ++ lexeme) rest (v ∷ us)) (sym gaps.0) (subst (λ l. Lexed ((done ++ other) ++ l) rest (v ∷ us)) (sym tokens_same.1) (subst (λ r. Lexed ((done ++ other) ++ longer) r (v ∷ us)) (sym tokens_same.2) also_lexed)))) where
      gaps : (gap ≡ other) × (lexeme ++ rest ≡ longer ++ more)
      gaps = same_gap left gap (lexeme ++ rest) other (longer ++ more) is (past_token which lexeme rest token.spelled) (parts ∙ append_assoc gap lexeme rest)
          also (past_token also_which longer more also_token.spelled) (pieces ∙ append_assoc other longer more)

      tokens_same : (which ≡ also_which) × (lexeme ≡ longer) × (rest ≡ more)
      tokens_same = same_token which lexeme rest also_which longer more token also_token gaps.1
