-- The values of each strategy.
use Rattle.std.specs.Prelude.{◌≡◌, ◌≤◌, ◌≤ℤ◌, ◌⊎◌, ℕ, ℤ, Bool, true, List, length}
use Rattle.std.specs.List.{All, Contains}
use Rattle.pt_val.specs.declared.val.Val.{Val}
use Rattle.pt_val.specs.declared.val.Val.TheVariants as val
use Rattle.pt_typed.specs.Shown.{pair_of}

-- the integers between two bounds, which are among them
abbrev pub IsBetween : ℤ → ℤ → Val → Type 0
IsBetween lo hi value = (number : ℤ) × (value ≡ val.Int number) × (lo ≤ℤ number) × (number ≤ℤ hi)

-- the two truth values
abbrev pub IsTruth : Val → Type 0
IsTruth value = (truth : Bool) × (value ≡ val.Bool truth)

-- the texts of so many characters of an alphabet
abbrev pub IsTextOf : List ℕ → ℕ → ℕ → Val → Type 0
IsTextOf alphabet min max value =
    (text : List ℕ) × (value ≡ val.Text text) × (min ≤ length text) × (length text ≤ max) × All (λ character. Contains alphabet character) text

-- the strings of so many bytes
abbrev pub IsBlobOf : ℕ → ℕ → Val → Type 0
IsBlobOf min max value = (bytes : List ℕ) × (value ≡ val.Bytes bytes) × (min ≤ length bytes) × (length bytes ≤ max)

-- the lists of so many elements, each of the set
abbrev pub IsListOf : (Val → Type 0) → ℕ → ℕ → Val → Type 0
IsListOf In min max value = (elements : List Val) × (value ≡ val.List elements) × (min ≤ length elements) × (length elements ≤ max) × All In elements

-- the pairs of the one set and the other
abbrev pub IsPairOf : (Val → Type 0) → (Val → Type 0) → Val → Type 0
IsPairOf In Other value = (first second : Val) × (value ≡ pair_of first second) × In first × Other second

-- the values of either set
abbrev pub IsInEither : (Val → Type 0) → (Val → Type 0) → Val → Type 0
IsInEither In Other value = In value ⊎ Other value

-- the images of the set
abbrev pub IsImageOf : (Val → Type 0) → (Val → Val) → Val → Type 0
IsImageOf In image value = (from : Val) × In from × (value ≡ image from)

-- the values of the set that are wanted
abbrev pub IsWanted : (Val → Type 0) → (Val → Bool) → Val → Type 0
IsWanted In wanted value = In value × (wanted value ≡ true)

-- the values of the sets that the values of the first lead to
abbrev pub IsLedTo : (Val → Type 0) → (Val → Val → Type 0) → Val → Type 0
IsLedTo In Next value = (from : Val) × In from × Next from value
