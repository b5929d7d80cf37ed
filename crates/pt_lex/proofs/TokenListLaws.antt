-- Laws of lists of tokens.
use Rattle.std.proofs.Common.{◌≡◌, ℕ, Bool, true, false, ◌≤◌, ◌<◌, ◌+◌, List, [], ◌∷◌, ◌++◌, length, take, inl, inr, refl, sym, ap, subst, ◌∙◌, arith, length-append}
use Rattle.std.specs.List.{AllByRecursion}
use Rattle.std.proofs.lemmas.List.{take_all}
use Rattle.std.proofs.lemmas.Str.{utf8_valid_len-IsValidUpTo}
use Rattle.pt_val.specs.declared.place.Place.{Place}
use Rattle.pt_token.specs.declared.token.Token.{Token}
use Rattle.pt_token.specs.declared.token.Kind.{Kind}
use Rattle.pt_token.specs.declared.token.Kind.TheVariants as kind
use Rattle.pt_token.specs.Ending.{EndOnce, is_last}
use Rattle.pt_lex.specs.Lexing.{Encoded, Lexed, NotUtf8At, TokensOf, token_behind}
use Rattle.pt_lex.specs.Places.{place_behind}
use Rattle.pt_lex.specs.Tokens.{Spelled}
use Rattle.pt_lex.proofs.Encodings.{fewer_chars, one_text}
use Rattle.pt_lex.proofs.LexedLaws.{no_empty, not_last, one_list}

pub one_tokens : (bytes : List ℕ) (tokens others : List Token) → TokensOf bytes tokens → TokensOf bytes others → tokens ≡ others
one_tokens bytes tokens others (text, encoded, lexed) (other, also, same) =
    one_list [] text tokens others lexed (subst (λ t. Lexed [] t others) (one_text other text bytes also encoded) same)

goes_on : (which : Kind) (lexeme : List ℕ) → Spelled which lexeme → is_last which ≡ false
goes_on which lexeme spelled = cases (is_last which) refl where
  cases : (b : Bool) → is_last which ≡ b → is_last which ≡ false
  cases true e = absurd (not_last which lexeme spelled e)
  cases false e = e

end_once : (done left : List ℕ) (tokens : List Token) → Lexed done left tokens → EndOnce tokens
end_once done left [] lexed = lexed
end_once done left (last ∷ []) (inl (gap, is)) = ap (λ (t : Token). is_last t.kind) is
end_once done left (last ∷ []) (inr (gap, rest, is, parts, past, at, none)) = ap (λ (t : Token). is_last t.kind) at
end_once done left (first ∷ second ∷ others) (gap, lexeme, rest, which, is, token, parts, at, lexed) =
    (ap (λ (t : Token). is_last t.kind) at ∙ goes_on which lexeme token.spelled, end_once ((done ++ gap) ++ lexeme) rest (second ∷ others) lexed)

pub tokens_once : (bytes : List ℕ) (tokens : List Token) → TokensOf bytes tokens → EndOnce tokens
tokens_once bytes tokens (text, encoded, lexed) = end_once [] text tokens lexed

in_a_line : (token : Token) (which : Kind) (text : List ℕ) → token ≡ token_behind which text → 0 < token.at.line
in_a_line token which text is = subst (λ (t : Token). 0 < t.at.line) (sym is) (omega arith)

all_real : (done left : List ℕ) (tokens : List Token) → Lexed done left tokens → AllByRecursion (λ token. 0 < token.at.line) tokens
all_real done left [] lexed = absurd lexed
all_real done left (last ∷ []) (inl (gap, is)) = (in_a_line last kind.End (done ++ left) is, tt)
all_real done left (last ∷ []) (inr (gap, rest, is, parts, past, at, none)) = (in_a_line last kind.Malformed (done ++ gap) at, tt)
all_real done left (first ∷ second ∷ others) (gap, lexeme, rest, which, is, token, parts, at, lexed) =
    (in_a_line first which (done ++ gap) at, all_real ((done ++ gap) ++ lexeme) rest (second ∷ others) lexed)

pub tokens_real : (bytes : List ℕ) (tokens : List Token) → TokensOf bytes tokens → AllByRecursion (λ token. 0 < token.at.line) tokens
tokens_real bytes tokens (text, encoded, lexed) = all_real [] text tokens lexed

few : (done left : List ℕ) (tokens : List Token) → Lexed done left tokens → length tokens ≤ length left + 1
few done left [] lexed = absurd lexed
few done left (last ∷ []) lexed = omega arith
few done left (first ∷ second ∷ others) (gap, lexeme, rest, which, is, token, parts, at, lexed) =
    omega (arith, few ((done ++ gap) ++ lexeme) rest (second ∷ others) lexed, no_empty which lexeme token.spelled, ap length parts, length-append (gap ++ lexeme) rest, length-append gap lexeme)

pub tokens_few : (bytes : List ℕ) (tokens : List Token) → TokensOf bytes tokens → length tokens ≤ length bytes + 1
tokens_few bytes tokens (text, encoded, lexed) = omega (arith, few [] text tokens lexed, fewer_chars text bytes encoded)

pub tokens_valid : (bytes : List ℕ) (tokens : List Token) (place : Place) → TokensOf bytes tokens → NotUtf8At bytes place → ⊥
tokens_valid bytes tokens place (text, (scalar, is), lexed) (valid, front, up_to, encoded, at) =
    up_to.longest (length bytes) up_to.short (text, (scalar, is ∙ sym (take_all (length bytes) bytes (omega arith))))

pub one_place : (bytes : List ℕ) (place other : Place) → NotUtf8At bytes place → NotUtf8At bytes other → place ≡ other
one_place bytes place other (valid, text, up_to, encoded, at) (also, more, same_up, too, is) =
    let same : valid ≡ also = sym (utf8_valid_len-IsValidUpTo bytes valid up_to) ∙ utf8_valid_len-IsValidUpTo bytes also same_up in
    at ∙ ap place_behind (one_text text more (take also bytes) (subst (λ n. Encoded text (take n bytes)) same encoded) too) ∙ sym is
