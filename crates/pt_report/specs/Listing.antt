-- The text of what the database holds.
use Rattle.std.specs.Prelude.{◌≡◌, ◌⊎◌, ℕ, List, [], ◌∷◌, ◌++◌, length, codes}
use Rattle.std.specs.Fmt.{decimal}
use Rattle.pt_choice.specs.declared.choice.Choice.{Choice}
use Rattle.pt_stored.specs.declared.entry.Entry.{Entry}
use Rattle.pt_wire.specs.Printed.{Printed}
use Rattle.pt_wire.specs.Unpacked.{Unpacks}
use Rattle.pt_report.specs.Report.{line}

-- the line of an entry: the digest of its key, and the list that its bytes spell in either version, or that they spell none
abbrev pub IsEntryLine : Entry → List ℕ → Type 0
IsEntryLine entry text =
    ((list : List Choice) × (printed : List ℕ) × Unpacks entry.bytes list × Printed list printed
    × (text ≡ line (entry.key ∷ codes " " ∷ printed ∷ [])))
    ⊎ (((list : List Choice) → Unpacks entry.bytes list → ⊥) × (text ≡ line (entry.key ∷ codes " unreadable" ∷ [])))

-- the lines of some entries, in order
abbrev pub AreEntryLines : List Entry → List ℕ → Type 0
AreEntryLines [] text = text ≡ []
AreEntryLines (entry ∷ entries) text =
    (one rest : List ℕ) × IsEntryLine entry one × AreEntryLines entries rest × (text ≡ one ++ rest)

-- the lines of all entries, and then how many there are
abbrev pub IsListing : List Entry → List ℕ → Type 0
IsListing entries text =
    (lines : List ℕ) × AreEntryLines entries lines × (text ≡ lines ++ line (decimal (length entries) ∷ codes " stored" ∷ []))
