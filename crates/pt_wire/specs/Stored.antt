-- Lists of choices as bytes.
use Rattle.std.specs.Prelude.{◌≡◌, ℕ, ◌+◌, ◌*◌, ◌/◌, ◌%◌, ◌<◌, true, false, ℤ, pos, negsuc, List, [], ◌∷◌, ◌++◌, length}
use Rattle.std.specs.List.{AllByRecursion}
use Rattle.pt_choice.specs.declared.choice.Choice.{Choice}
use Rattle.pt_choice.specs.declared.choice.Choice.TheVariants as choice
use Rattle.pt_wire.specs.Leb128.{IsLeb128}
use Rattle.pt_choice.specs.Limits.{IsBounded, IsFew}
use Rattle.pt_wire.specs.Spelling.{Chained}

-- the integers from 0 on are the even numbers, and those below 0 the odd ones
abbrev pub zigzag : ℤ → ℕ
zigzag (pos n) = 2 * n
zigzag (negsuc n) = 2 * n + 1

-- bytes, and few of them
abbrev pub IsShort : List ℕ → Type 0
IsShort bytes = IsFew bytes × AllByRecursion (λ byte. byte < 256) bytes

-- how many bytes there are, and the bytes
abbrev pub IsCounted : List ℕ → List ℕ → Type 0
IsCounted items bytes = (bytes ≡ length items ∷ items) × IsShort items

-- one choice: a byte for its sort, and then what it holds
abbrev pub StoredChoice : Choice → List ℕ → Type 0
StoredChoice (choice.Bool false) bytes = bytes ≡ 0 ∷ []
StoredChoice (choice.Bool true) bytes = bytes ≡ 1 ∷ []
StoredChoice (choice.Int value) bytes = (held : List ℕ) × (bytes ≡ 2 ∷ held) × IsLeb128 (zigzag value) held × IsBounded value
StoredChoice (choice.Bytes items) bytes = (held : List ℕ) × (bytes ≡ 3 ∷ held) × IsCounted items held
StoredChoice (choice.Text places) bytes = (held : List ℕ) × (bytes ≡ 4 ∷ held) × IsCounted places held

-- a list in version 1: its choices one after the other
abbrev pub StoredOne : List Choice → List ℕ → Type 0
StoredOne = Chained StoredChoice

-- the byte of version 2, and then how many choices there are, as two bytes with the low one first
abbrev pub IsHeader : ℕ → List ℕ → Type 0
IsHeader count bytes = (bytes ≡ 242 ∷ count % 256 ∷ count / 256 ∷ []) × (count < 65536)

-- a list in version 2: the header for its length, and its choices one after the other
abbrev pub Stored : List Choice → List ℕ → Type 0
Stored list bytes = (front held : List ℕ) × IsHeader (length list) front × Chained StoredChoice list held × (bytes ≡ front ++ held)
