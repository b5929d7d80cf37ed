-- What the edits of a turn may take away from the stored set, and add to it.
use Rattle.std.specs.Prelude.{◌≡◌, ◌≢◌, ◌⊎◌, ◌↔◌, ℕ, Bool, true, false, List, Contains, Option, Some, None, ⊤}
use Rattle.pt_disk.specs.Files.{Files}
use Rattle.pt_choice.specs.declared.choice.Choice.{Choice}
use Rattle.pt_wire.specs.Stored.{Stored}
use Rattle.pt_wire.specs.declared.unpacking.Unpacked.{Unpacked}
use Rattle.pt_found.specs.declared.finding.Verdict.{Verdict}
use Rattle.pt_found.specs.declared.finding.Verdict.TheVariants.{Passed, GaveUp, Failed}
use Rattle.pt_stored.specs.Stored.{IsStored}
use Rattle.pt_edits.specs.declared.reading.Reading.{Reading}

-- under the digests of other keys the same is stored
abbrev pub SameElsewhere : List ℕ → Files → Files → Type 0
SameElsewhere digest old new = (d b : List ℕ) → d ≢ digest → IsStored new d b ↔ IsStored old d b

-- The value may go: it spells no list, or its list does not fail, or it is of version 1 and its list is kept in version 2.
abbrev pub MayGo : (List Choice → Bool) → (List ℕ → Type 0) → Option Unpacked → Type 0
MayGo fails IsKept None = ⊤
MayGo fails IsKept (Some unpacked) = (fails unpacked.list ≡ false)
    ⊎ ((unpacked.old ≡ true) × (fresh : List ℕ) × Stored unpacked.list fresh × IsKept fresh)

-- it is the value of one of the readings, and may go
abbrev pub HasToGo : (List Choice → Bool) → (List ℕ → Type 0) → List Reading → List ℕ → Type 0
HasToGo fails IsKept readings bytes = (reading : Reading) × Contains readings reading × (reading.bytes ≡ bytes) × MayGo fails IsKept reading.unpacked

-- the value spells the failure that is shown, in version 2
abbrev pub IsOfShown : Verdict → List ℕ → Type 0
IsOfShown Passed bytes = ⊥
IsOfShown GaveUp bytes = ⊥
IsOfShown (Failed shown found spent) bytes = Stored shown.choices bytes

-- the value spells the list of one of the readings, in version 2, and the list fails
abbrev pub IsOfReading : (List Choice → Bool) → List Reading → List ℕ → Type 0
IsOfReading fails readings bytes = (reading : Reading) × (unpacked : Unpacked) × Contains readings reading × (reading.unpacked ≡ Some unpacked)
    × (fails unpacked.list ≡ true) × Stored unpacked.list bytes

-- what was stored is stored, or it was a value of the key that had to go
abbrev pub NothingIsLost : List ℕ → (List Choice → Bool) → List Reading → Files → Files → Type 0
NothingIsLost digest fails readings old new = (d b : List ℕ) → IsStored old d b →
    IsStored new d b ⊎ ((d ≡ digest) × HasToGo fails (IsStored new digest) readings b)

-- what is stored was stored, or it is under the key and spells the failure that is shown or a reading's list that fails
abbrev pub NothingIsInvented : List ℕ → (List Choice → Bool) → Verdict → List Reading → Files → Files → Type 0
NothingIsInvented digest fails verdict readings old new = (d b : List ℕ) → IsStored new d b →
    IsStored old d b ⊎ ((d ≡ digest) × (IsOfShown verdict b ⊎ IsOfReading fails readings b))
