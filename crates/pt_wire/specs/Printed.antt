-- Lists of choices as text.
use Rattle.std.specs.Prelude.{◌≡◌, ℕ, ◌/◌, ◌%◌, ◌<◌, ◌≤◌, Bool, true, false, ℤ, List, [], ◌∷◌, ◌++◌, codes}
use Rattle.std.specs.Fmt.{decimal, digit_glyph, signed_decimal}
use Rattle.pt_choice.specs.declared.choice.Choice.{Choice}
use Rattle.pt_choice.specs.declared.choice.Choice.TheVariants as choice
use Rattle.pt_choice.specs.Limits.{IsBounded, IsFew}
use Rattle.pt_wire.specs.Spelling.{Among, Chained, Joined}

-- what stands between two choices
abbrev pub space : ℕ
space = 32

-- what stands between two places
abbrev pub dot : ℕ
dot = 46

-- a letter for the value
abbrev pub PrintedBool : Bool → List ℕ → Type 0
PrintedBool false text = text ≡ codes "f"
PrintedBool true text = text ≡ codes "t"

-- decimal digits, behind a `-` where the number is below 0
abbrev pub PrintedInteger : ℤ → List ℕ → Type 0
PrintedInteger value text = (text ≡ signed_decimal value) × IsBounded value

-- two lower-case hexadecimal digits
abbrev pub PrintedByte : ℕ → List ℕ → Type 0
PrintedByte byte text = (text ≡ digit_glyph false (byte / 16) ∷ digit_glyph false (byte % 16) ∷ []) × (byte < 256)

-- decimal digits of a number that is not above the most
abbrev pub PrintedNumber : ℕ → ℕ → List ℕ → Type 0
PrintedNumber most number text = (text ≡ decimal number) × (number ≤ most)

-- numbers below 256 with a `.` between them, or nothing
abbrev pub PrintedPlaces : List ℕ → List ℕ → Type 0
PrintedPlaces [] text = text ≡ []
PrintedPlaces (first ∷ others) text = Joined (PrintedNumber 255) dot (first ∷ others) text

-- one choice: a letter for its sort, and then what it holds
abbrev pub PrintedChoice : Choice → List ℕ → Type 0
PrintedChoice (choice.Bool value) text = (held : List ℕ) × (text ≡ codes "b" ++ held) × PrintedBool value held
PrintedChoice (choice.Int value) text = (held : List ℕ) × (text ≡ codes "i" ++ held) × PrintedInteger value held
PrintedChoice (choice.Bytes bytes) text = (held : List ℕ) × (text ≡ codes "x" ++ held) × Among IsFew (Chained PrintedByte) bytes held
PrintedChoice (choice.Text places) text = (held : List ℕ) × (text ≡ codes "t" ++ held) × Among IsFew PrintedPlaces places held

-- a list: `-` where it is empty, and else its choices with one space between each two
abbrev pub Printed : List Choice → List ℕ → Type 0
Printed [] text = text ≡ codes "-"
Printed (first ∷ others) text = Joined PrintedChoice space (first ∷ others) text
