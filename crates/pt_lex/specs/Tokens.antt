-- One token, and what may follow it.
use Rattle.std.specs.Prelude.{◌≡◌, ℕ, ◌<◌, ◌≤◌, true, false, List, [], ◌∷◌, ◌++◌, length, min}
use Rattle.pt_val.specs.Name.{is_digit}
use Rattle.pt_token.specs.declared.token.Kind.{Kind}
use Rattle.pt_token.specs.declared.token.Kind.TheVariants as kind
use Rattle.pt_lex.specs.Gaps.{IsGap}
use Rattle.pt_lex.specs.Marks.{mark_text}
use Rattle.pt_lex.specs.Numbers.{is_number, number_on, most_number}
use Rattle.pt_lex.specs.Texts.{IsQuoted, IsHexed}
use Rattle.pt_lex.specs.Words.{word_text, IsNamed}

-- Which text spells a token of this kind. A number past the greatest that is kept is kept as that.
abbrev pub Spelled : Kind → List ℕ → Type 0
Spelled (kind.Word which) text = text ≡ word_text which
Spelled (kind.Mark which) text = text ≡ mark_text which
Spelled (kind.Minus number) text = text ≡ 45 ∷ []
Spelled (kind.Number kept) text = (is_number text ≡ true) × (kept ≡ min (number_on 0 text) most_number)
Spelled (kind.Name name) text = IsNamed text × (name ≡ text) × (length text ≤ 40)
Spelled kind.LongName text = IsNamed text × (40 < length text)
Spelled (kind.Text chars) text = IsQuoted chars text × (length chars ≤ 256)
Spelled kind.LongText text = (chars : List ℕ) × IsQuoted chars text × (256 < length chars)
Spelled (kind.Bytes bytes) text = IsHexed bytes text × (length bytes ≤ 64)
Spelled kind.LongBytes text = (bytes : List ℕ) × IsHexed bytes text × (64 < length bytes)
Spelled kind.Malformed text = ⊥
Spelled kind.End text = ⊥

-- no longer front of the text from there is a token
abbrev pub IsLongest : List ℕ → List ℕ → Type 0
IsLongest lexeme rest = (which : Kind) (longer more : List ℕ) → Spelled which longer → lexeme ++ rest ≡ longer ++ more → length longer ≤ length lexeme

-- `x` and a quote begin bytes
abbrev pub BeginsBytes : List ℕ → List ℕ → Type 0
BeginsBytes lexeme rest = (lexeme ≡ 120 ∷ []) × ((more : List ℕ) × (rest ≡ 34 ∷ more))

-- a number is the next token
abbrev pub NumberFollows : List ℕ → Type 0
NumberFollows rest = (gap more : List ℕ) × (digit : ℕ) × IsGap gap × (is_digit digit ≡ true) × (rest ≡ gap ++ digit ∷ more)

-- a minus sign tells whether a number is the next token
abbrev pub TellsNumber : Kind → List ℕ → Type 0
TellsNumber (kind.Minus true) rest = NumberFollows rest
TellsNumber (kind.Minus false) rest = NumberFollows rest → ⊥
TellsNumber other rest = Unit {0}

-- a token of this kind, where this follows it
pub record IsToken (which : Kind) (lexeme rest : List ℕ) : Type 0 where
  pub spelled : Spelled which lexeme
  pub longest : IsLongest lexeme rest
  pub apart : BeginsBytes lexeme rest → ⊥
  pub tells : TellsNumber which rest
