-- Texts and bytes between quotes.
use Rattle.std.specs.Prelude.{◌≡◌, ◌⊎◌, ℕ, ◌+◌, ◌*◌, ◌-◌, ◌≤◌, ◌==◌, ◌&&◌, ◌||◌, not, nat_le, Bool, true, if◌then◌else◌, List, [], ◌∷◌, ◌++◌, length}
use Rattle.std.specs.Char.{IsScalar}
use Rattle.std.specs.List.{list_all}
use Rattle.pt_val.specs.Name.{is_digit}
use Rattle.pt_wire.specs.Printed.{PrintedByte}
use Rattle.pt_wire.specs.Spelling.{Chained}

-- a character that stands for itself in a text: from a space on, but the delete character, a quote and a backslash
abbrev pub is_plain : ℕ → Bool
is_plain char = nat_le 32 char && not (char == 127) && not (char == 34) && not (char == 92)

-- a lower-case hexadecimal digit, and what it stands for
abbrev pub is_hex : ℕ → Bool
is_hex digit = is_digit digit || (nat_le 97 digit && nat_le digit 102)

abbrev pub hex_value : ℕ → ℕ
hex_value digit = if is_digit digit then digit - 48 else digit - 87

-- the number that hexadecimal digits stand for, behind those of another
abbrev pub hex_on : ℕ → List ℕ → ℕ
hex_on front [] = front
hex_on front (digit ∷ digits) = hex_on (16 * front + hex_value digit) digits

-- a character by its code, in one to six hexadecimal digits between braces
abbrev pub IsCode : ℕ → List ℕ → Type 0
IsCode char text =
    (digits : List ℕ) × (list_all is_hex digits ≡ true) × (1 ≤ length digits) × (length digits ≤ 6) × (char ≡ hex_on 0 digits) × IsScalar char
    × (text ≡ 123 ∷ digits ++ 125 ∷ [])

-- a character of a text: itself, a quote or a backslash behind a backslash, or its code, as `\u{e9}`
abbrev pub SpellsChar : ℕ → List ℕ → Type 0
SpellsChar char text =
    ((is_plain char ≡ true) × (text ≡ char ∷ []))
    ⊎ (((char == 34 || char == 92) ≡ true) × (text ≡ 92 ∷ char ∷ []))
    ⊎ ((code : List ℕ) × IsCode char code × (text ≡ 92 ∷ 117 ∷ code))

-- the spellings of the members up to a quote, and what follows it
abbrev pub Closes : {A : Type 0} → (A → List ℕ → Type 0) → List A → List ℕ → List ℕ → Type 0
Closes Spells members text rest = (inside : List ℕ) × Chained Spells members inside × (text ≡ inside ++ 34 ∷ rest)

-- characters between two quotes
abbrev pub IsQuoted : List ℕ → List ℕ → Type 0
IsQuoted chars text = (inside : List ℕ) × Closes SpellsChar chars inside [] × (text ≡ 34 ∷ inside)

-- bytes in hexadecimal digits between two quotes, behind an `x`
abbrev pub IsHexed : List ℕ → List ℕ → Type 0
IsHexed bytes text = (inside : List ℕ) × Closes PrintedByte bytes inside [] × (text ≡ 120 ∷ 34 ∷ inside)
