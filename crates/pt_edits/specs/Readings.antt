-- What is stored under a key, as it is read, and the edits that it asks for.
use Rattle.std.specs.Prelude.{◌≡◌, ◌↔◌, ℕ, Bool, true, false, List, [], ◌∷◌, ◌++◌, map, Contains, AllPairs, Option, Some, None, IfSome}
use Rattle.std.specs.Ordering.{nat_cmp}
use Rattle.std.specs.declared.cmp.Ordering.TheVariants.{Less}
use Rattle.std.specs.Cmp.Lexicographic.{slice_cmp}
use Rattle.pt_choice.specs.declared.choice.Choice.{Choice}
use Rattle.pt_wire.specs.Limits.{IsWritable}
use Rattle.pt_wire.specs.Stored.{Stored}
use Rattle.pt_wire.specs.Unpacked.{IsUnpacked}
use Rattle.pt_wire.specs.declared.unpacking.Unpacked.{Unpacked}
use Rattle.pt_found.specs.declared.finding.Verdict.{Verdict}
use Rattle.pt_found.specs.declared.finding.Verdict.TheVariants.{Passed, GaveUp, Failed}
use Rattle.pt_stored.specs.Digest.{file_name}
use Rattle.pt_edits.specs.Pairs.{Pairs, PairEdit, SavePair, DeletePair}
use Rattle.pt_edits.specs.declared.reading.Reading.{Reading}

-- the reading says what its bytes spell
abbrev pub IsSpelled : Reading → Type 0
IsSpelled reading = IsUnpacked reading.bytes reading.unpacked

-- if it spells a list, that can be written
abbrev pub IsWritableReading : Reading → Type 0
IsWritableReading reading = IfSome reading.unpacked (λ unpacked. IsWritable unpacked.list)

-- the readings are of just the values that are stored under keys of this digest
abbrev pub AreOfKey : Pairs → List ℕ → List Reading → Type 0
AreOfKey S digest readings = (b : List ℕ) → Contains (map (λ reading. reading.bytes) readings) b ↔ S digest b

-- they stand in the order of their files' names, and so each value once
abbrev pub AreInFileOrder : List ℕ → List Reading → Type 0
AreInFileOrder digest readings = AllPairs (λ one other.
    slice_cmp nat_cmp (file_name digest one.bytes) (file_name digest other.bytes) ≡ Less) readings

-- the lists of those that spell one, in order
abbrev pub list_in : Option Unpacked → List (List Choice)
list_in None = []
list_in (Some unpacked) = unpacked.list ∷ []

abbrev pub lists_of : List Reading → List (List Choice)
lists_of [] = []
lists_of (reading ∷ readings) = list_in reading.unpacked ++ lists_of readings

-- a value of version 1 is saved in version 2, and then deleted; one of version 2 is left alone
abbrev pub IsRenewed : List ℕ → List ℕ → List Choice → Bool → List PairEdit → Type 0
IsRenewed digest bytes list true edits =
    (fresh : List ℕ) × Stored list fresh × (edits ≡ SavePair digest fresh ∷ DeletePair digest bytes ∷ [])
IsRenewed digest bytes list false edits = edits ≡ []

-- a value whose list fails is renewed, and one whose list does not is deleted
abbrev pub IsKeptOrNot : List ℕ → List ℕ → Unpacked → Bool → List PairEdit → Type 0
IsKeptOrNot digest bytes unpacked true edits = IsRenewed digest bytes unpacked.list unpacked.old edits
IsKeptOrNot digest bytes unpacked false edits = edits ≡ DeletePair digest bytes ∷ []

-- The edits that one reading asks for. A value that spells no list is deleted. The first flag says of the list of another whether
-- it fails, and these flags are left.
abbrev pub IsAskedBy : List ℕ → List ℕ → Option Unpacked → List Bool → List Bool → List PairEdit → Type 0
IsAskedBy digest bytes None flags left edits = (left ≡ flags) × (edits ≡ DeletePair digest bytes ∷ [])
IsAskedBy digest bytes (Some unpacked) flags left edits =
    (flag : Bool) × (flags ≡ flag ∷ left) × IsKeptOrNot digest bytes unpacked flag edits

-- the edits that the readings ask for, in order, with one flag for each list
abbrev pub AreAskedFor : List ℕ → List Reading → List Bool → List PairEdit → Type 0
AreAskedFor digest [] flags edits = edits ≡ []
AreAskedFor digest (reading ∷ readings) flags edits =
    (left : List Bool) × (its rest : List PairEdit) × IsAskedBy digest reading.bytes reading.unpacked flags left its
    × AreAskedFor digest readings left rest × (edits ≡ its ++ rest)

-- the list is saved, in version 2
abbrev pub IsSaved : List ℕ → List Choice → List PairEdit → Type 0
IsSaved digest list edits = (fresh : List ℕ) × Stored list fresh × (edits ≡ SavePair digest fresh ∷ [])

-- a failure that is shown is saved
abbrev pub IsShownSaved : List ℕ → Verdict → List PairEdit → Type 0
IsShownSaved digest Passed edits = edits ≡ []
IsShownSaved digest GaveUp edits = edits ≡ []
IsShownSaved digest (Failed shown found spent) edits = IsSaved digest shown.choices edits

-- The edits of an item's turn: the shown example is saved first, and then the readings are gone through.
abbrev pub AreEdits : List ℕ → List Reading → Verdict → List Bool → List PairEdit → Type 0
AreEdits digest readings verdict flags edits =
    (first rest : List PairEdit) × IsShownSaved digest verdict first × AreAskedFor digest readings flags rest × (edits ≡ first ++ rest)
