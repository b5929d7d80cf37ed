-- What the turns of some items may take away from the stored set, and add to it.
use Rattle.std.specs.Prelude.{◌≡◌, ◌≢◌, ◌⊎◌, ◌≤◌, ℕ, Bool, true, false, List, length, Contains, Option, Some, None, ⊤}
use Rattle.pt_choice.specs.declared.choice.Choice.{Choice}
use Rattle.pt_wire.specs.Stored.{Stored}
use Rattle.pt_wire.specs.Unpacked.{IsUnpacked}
use Rattle.pt_wire.specs.declared.unpacking.Unpacked.{Unpacked}
use Rattle.pt_case.specs.Ending.{is_failure}
use Rattle.pt_case.specs.Run.{IsRecord}
use Rattle.pt_case.specs.Step.{Answer}
use Rattle.pt_case.specs.declared.record.Record.{Record}
use Rattle.pt_ast.specs.Trees.{ItemTree}
use Rattle.pt_item.specs.Item.{OfItem}
use Rattle.pt_disk.specs.Files.{Files}
use Rattle.pt_stored.specs.Digest.{file_name}
use Rattle.pt_stored.specs.Stored.{IsStored, pending}
use Rattle.pt_turns.specs.Turn.{digest_of}

-- one of the items has a name of this digest, and of it this holds
abbrev pub OfKey : List ItemTree → List ℕ → (ItemTree → Type 0) → Type 0
OfKey items digest Holds = (item : ItemTree) × Contains items item × (digest_of item ≡ digest) × Holds item

-- each file but the spare one is as it was, or it is that of a value of one of the items: whole, or away
abbrev pub NothingElseChanges : List ItemTree → Files → Files → Type 0
NothingElseChanges items old new = (file : List ℕ) → file ≢ pending → (new file ≡ old file)
    ⊎ ((item : ItemTree) × Contains items item × (bytes : List ℕ) × (file ≡ file_name (digest_of item) bytes)
    × ((new file ≡ Some bytes) ⊎ (new file ≡ None)))

module _ {C : Type 0} (name : C → List ℕ) (step : C → List Choice → Answer → Type 0) (checks : List C) where
  -- the record of this list on the item's check is a failure, or is none
  abbrev pub Fails : ItemTree → List Choice → Bool → Type 0
  Fails item list flag = OfItem name step checks item (λ says. (rec : Record) × IsRecord says list rec × (is_failure rec.ending ≡ flag))

  -- the value spells, in version 2, a list on which the item fails
  abbrev pub IsFailure : ItemTree → List ℕ → Type 0
  IsFailure item bytes = (list : List Choice) × Stored list bytes × (length list ≤ 256) × Fails item list true

  -- The value may go: it spells no list, or one on which the item does not fail, or it is of version 1 and its list is kept in version 2.
  abbrev pub MayGo : ItemTree → (List ℕ → Type 0) → Option Unpacked → Type 0
  MayGo item IsKept None = ⊤
  MayGo item IsKept (Some unpacked) = Fails item unpacked.list false
      ⊎ ((unpacked.old ≡ true) × (fresh : List ℕ) × Stored unpacked.list fresh × IsKept fresh)

  -- what was stored is stored, or it is a value of one of the items that may go
  abbrev pub NothingIsLost : List ItemTree → Files → Files → Type 0
  NothingIsLost items old new = (d b : List ℕ) → IsStored old d b → IsStored new d b
      ⊎ OfKey items d (λ item. (found : Option Unpacked) × IsUnpacked b found × MayGo item (IsStored new d) found)

  -- what is stored was stored, or it is a failure of one of the items
  abbrev pub NothingIsInvented : List ItemTree → Files → Files → Type 0
  NothingIsInvented items old new = (d b : List ℕ) → IsStored new d b → IsStored old d b ⊎ OfKey items d (λ item. IsFailure item b)
