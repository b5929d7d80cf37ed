-- What stands at the front of a text.
use Rattle.std.specs.Prelude.{◌≡◌, ◌⊎◌, ℕ, ◌≤◌, true, List, [], ◌∷◌, ◌++◌, length}
use Rattle.pt_val.specs.Name.{is_letter}
use Rattle.pt_token.specs.declared.token.Kind.{Kind}
use Rattle.pt_token.specs.declared.token.Kind.TheVariants as kind
use Rattle.pt_lex.specs.Tokens.{BeginsBytes, Spelled, TellsNumber}

-- a token of this kind and no other, with this behind it
pub record Takes (which : Kind) (text rest : List ℕ) : Type 0 where
  pub lexeme : List ℕ
  pub parts : text ≡ lexeme ++ rest
  pub spelled : Spelled which lexeme
  pub apart : BeginsBytes lexeme rest → ⊥
  pub longest : (other : Kind) (longer more : List ℕ) → Spelled other longer → text ≡ longer ++ more → length longer ≤ length lexeme
  pub only : (other : Kind) → Spelled other lexeme → TellsNumber other rest → other ≡ which
  pub tells : TellsNumber which rest

-- no token
abbrev pub Refused : List ℕ → Type 0
Refused text = (which : Kind) (lexeme rest : List ℕ) → Spelled which lexeme → text ≡ lexeme ++ rest → BeginsBytes lexeme rest

-- the end, a token, or none
abbrev pub Outcome : List ℕ → Kind → List ℕ → Type 0
Outcome [] which rest = which ≡ kind.End
Outcome (first ∷ others) which rest = Takes which (first ∷ others) rest ⊎ ((which ≡ kind.Malformed) × Refused (first ∷ others))

-- a letter stands there
abbrev pub StartsLetter : List ℕ → Type 0
StartsLetter [] = ⊥
StartsLetter (first ∷ rest) = is_letter first ≡ true
