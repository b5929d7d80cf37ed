-- What is said of every spelling, whatever it spells.
use Rattle.std.specs.Prelude.{◌≡◌, ◌≢◌, ℕ, ◌+◌, ◌<◌, ◌≤◌, List, [], ◌∷◌, ◌++◌, length, take, Option, MatchOption}
use Rattle.std.specs.Borrow.{Bor}
use Rattle.std.specs.List.{AllByRecursion}

-- some spelling begins with these bytes
abbrev pub Begins : {A : Type 0} → (A → List ℕ → Type 0) → List ℕ → Type 0
Begins {A} Spells front = (value : A) × (rest : List ℕ) × Spells value (front ++ rest)

-- The bytes are no spelling. Those before the place begin one, and with the byte at the place they begin none, so
-- that it is the least such place. Where all of the bytes begin a spelling, the place is their end.
pub record FailsAt {A : Type 0} (Spells : A → List ℕ → Type 0) (bytes : List ℕ) (place : ℕ) : Type 0 where
  pub none : (value : A) → Spells value bytes → ⊥
  pub within : place ≤ length bytes
  pub begun : Begins Spells (take place bytes)
  pub broken : place < length bytes → Begins Spells (take (place + 1) bytes) → ⊥

-- the bytes are a spelling of the value, and then the rest
abbrev pub Splits : {A : Type 0} → (A → List ℕ → Type 0) → A → List ℕ → List ℕ → Type 0
Splits Spells value bytes rest = (front : List ℕ) × Spells value front × (bytes ≡ front ++ rest)

-- the spellings of the values, one after the other
abbrev pub Chained : {A : Type 0} → (A → List ℕ → Type 0) → List A → List ℕ → Type 0
Chained Spells [] bytes = bytes ≡ []
Chained Spells (first ∷ others) bytes = (front rest : List ℕ) × Spells first front × Chained Spells others rest × (bytes ≡ front ++ rest)

-- the spellings of one or more values, with the mark between each two
abbrev pub Joined : {A : Type 0} → (A → List ℕ → Type 0) → ℕ → List A → List ℕ → Type 0
Joined Spells mark [] bytes = ⊥
Joined Spells mark (only ∷ []) bytes = Spells only bytes
Joined Spells mark (first ∷ second ∷ others) bytes =
    (front rest : List ℕ) × Spells first front × Joined Spells mark (second ∷ others) rest × (bytes ≡ front ++ mark ∷ rest)

-- a list that is spelled, of those that may be
abbrev pub Among : {A : Type 0} → (List A → Type 0) → (List A → List ℕ → Type 0) → List A → List ℕ → Type 0
Among May Spells list bytes = May list × Spells list bytes

-- a spelling of the value stands at the front of the bytes
abbrev pub StartsWith : {A : Type 0} → (A → List ℕ → Type 0) → A → List ℕ → Type 0
StartsWith Spells value bytes = (rest : List ℕ) × Splits Spells value bytes rest

-- new is old with a spelling of the value at its end
abbrev pub Appends : {A : Type 0} → (A → List ℕ → Type 0) → A → List ℕ → List ℕ → Type 0
Appends Spells value old new = (spelling : List ℕ) × Spells value spelling × (new ≡ old ++ spelling)

-- the word is what stands before the first mark, and after it comes what stands behind that mark, if there is one
abbrev pub IsCut : ℕ → List ℕ → List ℕ → Option (Bor (List ℕ)) → Type 0
IsCut mark text word after = AllByRecursion (λ byte. byte ≢ mark) word × MatchOption after (text ≡ word) (λ rest. text ≡ word ++ mark ∷ rest.now)
