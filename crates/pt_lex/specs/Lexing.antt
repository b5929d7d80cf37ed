-- The tokens of a text.
--
-- A text is cut into gaps and tokens, each token the longest that stands there. This says which cuts are right, and
-- nothing of how they are found.
use Rattle.std.specs.Prelude.{◌≡◌, ◌⊎◌, ℕ, Bool, true, false, List, [], ◌∷◌, ◌++◌, take}
use Rattle.std.specs.Str.{all_scalars, encode_utf8_all, IsValidUpTo}
use Rattle.pt_val.specs.declared.place.Place.{Place}
use Rattle.pt_token.specs.declared.token.Token.{Token}
use Rattle.pt_token.specs.declared.token.Kind.{Kind}
use Rattle.pt_token.specs.declared.token.Kind.TheVariants as kind
use Rattle.pt_lex.specs.Gaps.{IsGap, IsLastGap, IsPastGap}
use Rattle.pt_lex.specs.Places.{place_behind}
use Rattle.pt_lex.specs.Tokens.{IsToken}

abbrev pub token_behind : Kind → List ℕ → Token
token_behind which text = record { at = place_behind text; kind = which }

-- The tokens of what is left of a text, behind what is done of it. They end with the end of the text, or with the
-- first token that is malformed: there no token stands.
abbrev pub Lexed : List ℕ → List ℕ → List Token → Type 0
Lexed done left [] = ⊥
Lexed done left (last ∷ []) =
    (IsLastGap left × (last ≡ token_behind kind.End (done ++ left)))
    ⊎ ((gap rest : List ℕ) × IsGap gap × (left ≡ gap ++ rest) × IsPastGap rest × (last ≡ token_behind kind.Malformed (done ++ gap))
    × ((which : Kind) (lexeme more : List ℕ) → IsToken which lexeme more → rest ≡ lexeme ++ more → ⊥))
Lexed done left (first ∷ second ∷ others) =
    (gap lexeme rest : List ℕ) × (which : Kind) × IsGap gap × IsToken which lexeme rest × (left ≡ gap ++ lexeme ++ rest)
    × (first ≡ token_behind which (done ++ gap)) × Lexed (done ++ gap ++ lexeme) rest (second ∷ others)

-- the characters that bytes encode as UTF-8
abbrev pub Encoded : List ℕ → List ℕ → Type 0
Encoded text bytes = (all_scalars text ≡ true) × (encode_utf8_all text ≡ bytes)

-- the tokens of the text that bytes encode
abbrev pub TokensOf : List ℕ → List Token → Type 0
TokensOf bytes tokens = (text : List ℕ) × Encoded text bytes × Lexed [] text tokens

-- bytes that are not UTF-8, from behind the longest front on that is
abbrev pub NotUtf8At : List ℕ → Place → Type 0
NotUtf8At bytes place = (valid : ℕ) × (text : List ℕ) × IsValidUpTo bytes valid × Encoded text (take valid bytes) × (place ≡ place_behind text)
