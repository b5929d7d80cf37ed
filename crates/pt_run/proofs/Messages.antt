-- What follows of files that hold a suite.
use Rattle.std.proofs.Common.{◌≡◌, ℕ, true, false, List, Option, Some, None, Result, Ok, Err, IfOk, OnErr, OnOk, IsOk, refl, subst}
use Rattle.std.specs.Option.{IfSome, IsSomeAnd}
use Rattle.pt_io.specs.Files.{Shown, HasBytes, HasNone}

-- what follows of an answer
pub IfOk-follows : {T E : Type 0} (result : Result T E) (P Q : T → Type 0) → IfOk result P → ((value : T) → P value → Q value) → IfOk result Q
IfOk-follows (Ok value) P Q holds follows = follows value holds
IfOk-follows (Err error) P Q holds follows = tt

-- what holds anyway holds after an error, and so does anything where there was none
pub OnErr-always : {T E : Type 0} (result : Result T E) (P : Type 0) → P → OnErr result P
OnErr-always (Ok value) P holds = tt
OnErr-always (Err error) P holds = holds

pub OnOk-always : {T E : Type 0} (result : Result T E) (P : Type 0) → P → OnOk result P
OnOk-always (Ok value) P holds = holds
OnOk-always (Err error) P holds = tt

pub OnErr-never : {T E : Type 0} (result : Result T E) (P : Type 0) → IsOk result → OnErr result P
OnErr-never (Ok value) P ok = tt
OnErr-never (Err error) P ok = absurd (let none : false ≡ true = ok in cc)

-- what follows of the bytes
pub HasBytes-follows : (files : Shown) (name : List ℕ) (P Q : List ℕ → Type 0) → HasBytes files name P → ((bytes : List ℕ) → P bytes → Q bytes) → HasBytes files name Q
HasBytes-follows files name P Q has follows = of_named files.named has
  where
    of_content : (content : Option (List ℕ)) → IsSomeAnd content P → IsSomeAnd content Q
    of_content None is = is
    of_content (Some bytes) is = follows bytes is

    of_named : (named : Option (List ℕ → Option (List ℕ))) → IfSome named (λ content. IsSomeAnd (content name) P) → IfSome named (λ content. IsSomeAnd (content name) Q)
    of_named None is = is
    of_named (Some content) is = of_content (content name) is

-- what holds of the file's bytes
pub HasBytes-at : (files : Shown) (name : List ℕ) (P : List ℕ → Type 0) (content : List ℕ → Option (List ℕ)) (bytes : List ℕ) →
    HasBytes files name P → files.named ≡ Some content → content name ≡ Some bytes → P bytes
HasBytes-at files name P content bytes has told there =
    let of_content = subst (λ (named : Option (List ℕ → Option (List ℕ))). IfSome named (λ content. IsSomeAnd (content name) P)) told has in
    subst (λ (found : Option (List ℕ)). IsSomeAnd found P) there of_content

-- where the files are told, there are such bytes
pub HasBytes-some : (files : Shown) (name : List ℕ) (P : List ℕ → Type 0) (content : List ℕ → Option (List ℕ)) →
    HasBytes files name P → files.named ≡ Some content → (bytes : List ℕ) × (content name ≡ Some bytes) × P bytes
HasBytes-some files name P content has told =
    of_content (content name) refl (subst (λ (named : Option (List ℕ → Option (List ℕ))). IfSome named (λ content. IsSomeAnd (content name) P)) told has)
  where
    of_content : (found : Option (List ℕ)) → content name ≡ found → IsSomeAnd found P → (bytes : List ℕ) × (content name ≡ Some bytes) × P bytes
    of_content None is has = absurd has
    of_content (Some bytes) is has = (bytes, is, has)

-- a file that is there is not absent
pub HasNone-not : (files : Shown) (name : List ℕ) (content : List ℕ → Option (List ℕ)) (bytes : List ℕ) →
    HasNone files name → files.named ≡ Some content → content name ≡ Some bytes → ⊥
HasNone-not files name content bytes none told there =
    let absent : content name ≡ None = subst (λ (named : Option (List ℕ → Option (List ℕ))). IfSome named (λ content. content name ≡ None)) told none in
    cc
