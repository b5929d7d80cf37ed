-- Sets of stored pairs, and edits of them.
use Rattle.std.specs.Prelude.{◌≡◌, ◌≢◌, ◌⊎◌, ◌↔◌, ℕ, List, [], ◌∷◌, ◌++◌, Contains, Option, Some, None}
use Rattle.std.specs.List.{AllByRecursion}
use Rattle.pt_disk.specs.Files.{Files}
use Rattle.pt_stored.specs.Digest.{file_name}
use Rattle.pt_stored.specs.Stored.{IsStored, IsPair, pending}
use Rattle.pt_edits.specs.declared.edit.Edit.{Edit}
use Rattle.pt_edits.specs.declared.edit.Edit.TheVariants.{Save, Delete}

-- which values are stored under which digests of keys
abbrev pub Pairs : Type 1
Pairs = List ℕ → List ℕ → Type 0

-- a pair that is saved, or deleted
pub data PairEdit : Type 0 where
  SavePair : (digest bytes : List ℕ) → PairEdit
  DeletePair : (digest bytes : List ℕ) → PairEdit

-- the edit of a value, under a key of this digest
abbrev pub under : List ℕ → Edit → PairEdit
under digest (Save bytes) = SavePair digest bytes
under digest (Delete bytes) = DeletePair digest bytes

abbrev pub digest_of : PairEdit → List ℕ
digest_of (SavePair digest bytes) = digest
digest_of (DeletePair digest bytes) = digest

abbrev pub bytes_of : PairEdit → List ℕ
bytes_of (SavePair digest bytes) = bytes
bytes_of (DeletePair digest bytes) = bytes

-- all of the edits are under keys of this digest
abbrev pub AreUnder : List ℕ → List PairEdit → Type 0
AreUnder digest edits = AllByRecursion (λ edit. digest_of edit ≡ digest) edits

-- the set after an edit: with the pair, or without it
abbrev pub after : PairEdit → Pairs → Pairs
after (SavePair digest bytes) S d b = S d b ⊎ IsPair digest bytes d b
after (DeletePair digest bytes) S d b = S d b × ¬ IsPair digest bytes d b

-- the set after these edits, one after another
abbrev pub after_all : List PairEdit → Pairs → Pairs
after_all [] S = S
after_all (edit ∷ edits) S = after_all edits (after edit S)

-- the new files store what the old ones do, after these edits
abbrev pub StoresAfter : List PairEdit → Files → Files → Type 0
StoresAfter edits old new = (d b : List ℕ) → IsStored new d b ↔ after_all edits (IsStored old) d b

-- the file of an edit's value, and what the edit leaves of it: the whole value, or none
abbrev pub file_of : PairEdit → List ℕ
file_of edit = file_name (digest_of edit) (bytes_of edit)

abbrev pub left_by : PairEdit → Option (List ℕ)
left_by (SavePair digest bytes) = Some bytes
left_by (DeletePair digest bytes) = None

-- each file but the spare one is as it was, or as one of these edits leaves it
abbrev pub ChangedBy : List PairEdit → Files → Files → Type 0
ChangedBy edits old new = (name : List ℕ) → name ≢ pending → (new name ≡ old name)
    ⊎ ((edit : PairEdit) × Contains edits edit × (name ≡ file_of edit) × (new name ≡ left_by edit))

-- these edits lead from the old files to the new ones, and touch no others
pub record IsAfter (edits : List PairEdit) (old new : Files) : Type 0 where
  pub stored : StoresAfter edits old new
  pub files : ChangedBy edits old new

-- some first ones of these edits do
abbrev pub IsAfterSome : List PairEdit → Files → Files → Type 0
IsAfterSome edits old new = (made left : List PairEdit) × (edits ≡ made ++ left) × IsAfter made old new
