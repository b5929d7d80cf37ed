-- Where tokens have their first fault.
use Rattle.std.specs.Prelude.{◌≡◌, Bool, false, List, [], ◌∷◌, ◌++◌}
use Rattle.pt_token.specs.declared.token.Token.{Token}
use Rattle.pt_grammar.specs.declared.sort.Sort.{Sort}
use Rattle.pt_grammar.specs.declared.sort.Sort.TheVariants as sort

-- which tokens spell a tree, free of faults up to a sort
abbrev pub Family : Type 0 → Type 1
Family A = Sort → A → List Token → Type 0

-- some tree is spelled by these tokens and others behind them
abbrev pub Begins : {A : Type 0} → (A → List Token → Type 0) → List Token → Type 0
Begins {A} Spells front = (tree : A) × (more : List Token) × Spells tree (front ++ more)

-- the one sort comes before the other
abbrev pub IsBefore : Sort → Sort → Type 0
IsBefore sort.Syntax sort.Syntax = ⊥
IsBefore sort.Syntax other = Unit {0}
IsBefore sort.TooDeep sort.OutOfRange = Unit {0}
IsBefore sort.TooDeep other = ⊥
IsBefore sort.OutOfRange other = ⊥

-- The tokens up to this one begin nothing that is free of faults up to this sort. Those before it begin something
-- without any fault, and with it they begin something that is free of the faults before this sort.
pub record HasFirstFault {A : Type 0} (Spells : Family A) (tokens : List Token) (which : Sort) (token : Token) : Type 0 where
  pub front : List Token
  pub after : List Token
  pub parts : tokens ≡ front ++ token ∷ after
  pub begun : Begins (Spells sort.OutOfRange) front
  pub reached : (earlier : Sort) → IsBefore earlier which → Begins (Spells earlier) (front ++ token ∷ [])
  pub broken : Begins (Spells which) (front ++ token ∷ []) → ⊥
