-- The smallest forms of the grammar, and how forms stand one behind the other.
--
-- Each definition is given the sort of fault up to which the tokens are free of faults: at `Syntax` no bound is
-- minded, at `TooDeep` the nesting is, and at `OutOfRange` all bounds are.
use Rattle.std.specs.Prelude.{◌≡◌, ◌⊎◌, ℕ, ◌-◌, ◌^◌, ◌<◌, ◌≤◌, pos, neg_ℤ, ℤ, length, List, [], ◌∷◌, ◌++◌}
use Rattle.pt_val.specs.declared.place.Place.{Place}
use Rattle.pt_ast.specs.declared.ident.Ident.{Ident}
use Rattle.pt_ast.specs.Bounds.{IsBetween}
use Rattle.pt_token.specs.declared.token.Token.{Token}
use Rattle.pt_token.specs.declared.token.Kind.{Kind}
use Rattle.pt_token.specs.declared.token.Kind.TheVariants as kind
use Rattle.pt_grammar.specs.declared.sort.Sort.{Sort}
use Rattle.pt_grammar.specs.declared.sort.Sort.TheVariants as sort
use Rattle.pt_grammar.specs.Tokens.{IsReal}

-- the nesting is minded
abbrev pub MindsNesting : Sort → Type 0
MindsNesting sort.Syntax = ⊥
MindsNesting sort.TooDeep = Unit {0}
MindsNesting sort.OutOfRange = Unit {0}

-- all bounds are minded
abbrev pub MindsAll : Sort → Type 0
MindsAll sort.Syntax = ⊥
MindsAll sort.TooDeep = ⊥
MindsAll sort.OutOfRange = Unit {0}

-- the tokens of the first, and then those of the second
infixr 5 ◌⨾◌
abbrev pub ◌⨾◌ : (List Token → Type 0) → (List Token → Type 0) → List Token → Type 0
(First ⨾ Second) tokens = (front rest : List Token) × First front × Second rest × (tokens ≡ front ++ rest)

-- one token of this kind
abbrev pub One : Kind → List Token → Type 0
One which tokens = (token : Token) × (token.kind ≡ which) × (tokens ≡ token ∷ [])

-- one token of this kind, which stands there
abbrev pub OneAt : Kind → Place → List Token → Type 0
OneAt which at tokens = (token : Token) × (token.kind ≡ which) × (token.at ≡ at) × (tokens ≡ token ∷ [])

-- one token of this kind, which opens a level, where this many are left
abbrev pub Opens : Sort → ℕ → Kind → List Token → Type 0
Opens upto left which tokens = (token : Token) × (token.kind ≡ which) × (tokens ≡ token ∷ []) × (MindsNesting upto → IsReal token → 0 < left)

-- the same, which stands there
abbrev pub NestsAt : Sort → ℕ → Kind → Place → List Token → Type 0
NestsAt upto left which at tokens = (token : Token) × (token.kind ≡ which) × (token.at ≡ at) × (tokens ≡ token ∷ [])
    × (MindsNesting upto → IsReal token → 0 < left)

-- one token of this kind, which stands there, or one that is too long for it
abbrev pub Fitting : Sort → Kind → Kind → Place → List Token → Type 0
Fitting upto which long at tokens =
    (token : Token) × ((token.kind ≡ which) ⊎ ((token.kind ≡ long) × (MindsAll upto → IsReal token → ⊥))) × (token.at ≡ at) × (tokens ≡ token ∷ [])

abbrev pub IsName : Sort → Ident → List Token → Type 0
IsName upto given tokens = Fitting upto (kind.Name given.name) kind.LongName given.at tokens

-- a number that is an integer
abbrev pub Number : Sort → Place → ℤ → List Token → Type 0
Number upto at value tokens =
    (token : Token) × (n : ℕ) × (token.kind ≡ kind.Number n) × (token.at ≡ at) × (tokens ≡ token ∷ []) × (value ≡ pos n)
    × (MindsAll upto → IsReal token → n < 2 ^ 63)

-- a number that is an integer behind a minus sign
abbrev pub Magnitude : Sort → ℤ → List Token → Type 0
Magnitude upto value tokens =
    (token : Token) × (n : ℕ) × (token.kind ≡ kind.Number n) × (tokens ≡ token ∷ []) × (value ≡ neg_ℤ (pos n))
    × (MindsAll upto → IsReal token → n ≤ 2 ^ 63)

-- a number within bounds
abbrev pub Limited : Sort → ℕ → ℕ → ℕ → List Token → Type 0
Limited upto least most n tokens =
    (token : Token) × (token.kind ≡ kind.Number n) × (tokens ≡ token ∷ []) × (MindsAll upto → IsReal token → IsBetween least most n)

-- the first of these tokens is one of the text
abbrev pub StandsInText : List Token → Type 0
StandsInText [] = ⊥
StandsInText (token ∷ tokens) = IsReal token

-- the first of these tokens stands there
abbrev pub StartsAt : Place → List Token → Type 0
StartsAt at [] = ⊥
StartsAt at (token ∷ tokens) = token.at ≡ at

-- a part, where there is room for this many: its first token is minded
abbrev pub Part : Sort → ℕ → (List Token → Type 0) → List Token → Type 0
Part upto room Spells tokens = Spells tokens × (MindsAll upto → StandsInText tokens → 0 < room)

-- forms one behind the other, each of which is given what those before it leave
abbrev pub Series : {A Given : Type 0} → (Given → A → List Token → Type 0) → (Given → A → Given) → Given → List A → List Token → Type 0
Series Spells leaves given [] tokens = tokens ≡ []
Series Spells leaves given (first ∷ others) tokens = (Spells given first ⨾ Series Spells leaves (leaves given first) others) tokens
