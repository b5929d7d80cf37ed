-- A folder that may stop at any moment: what reads give, and what a crash may leave.
use Rattle.std.specs.Prelude.{◌≡◌, ◌⊎◌, ℕ, Bool, true, false, not, ◌&&◌, ◌||◌, if◌then◌else◌, List, Some, None}
use Rattle.pt_disk.specs.Files.{Files, is_name, with_file, SameBut}
use Rattle.pt_disk.specs.declared.change.Change.{Change}
use Rattle.pt_disk.specs.declared.change.Change.TheVariants.{Put, Sync, Rename, Remove, Settle}

-- files that are all stable, or a folder after a change
pub data Folder : Type 0 where
  Stable : (files : Files) → Folder
  After : (change : Change) → (before : Folder) → Folder

-- what reads give
abbrev pub reads : Folder → Files
reads (Stable files) = files
reads (After (Put put bytes) before) = with_file put (Some bytes) (reads before)
reads (After (Sync synced) before) = reads before
reads (After (Rename from to) before) = with_file to (reads before from) (with_file from None (reads before))
reads (After (Remove removed) before) = with_file removed None (reads before)
reads (After Settle before) = reads before

-- what reads gave at the last settle
abbrev pub settled : Folder → Files
settled (Stable files) = files
settled (After (Put put bytes) before) = settled before
settled (After (Sync synced) before) = settled before
settled (After (Rename from to) before) = settled before
settled (After (Remove removed) before) = settled before
settled (After Settle before) = reads before

-- a put, a rename or a remove since the last settle named it
abbrev pub is_touched : Folder → List ℕ → Bool
is_touched (Stable files) name = false
is_touched (After (Put put bytes) before) name = is_name name put || is_touched before name
is_touched (After (Sync synced) before) name = is_touched before name
is_touched (After (Rename from to) before) name = is_name name from || is_name name to || is_touched before name
is_touched (After (Remove removed) before) name = is_name name removed || is_touched before name
is_touched (After Settle before) name = false

-- the name's file has a put that was not synced
abbrev pub is_unsynced : Folder → List ℕ → Bool
is_unsynced (Stable files) name = false
is_unsynced (After (Put put bytes) before) name = is_name name put || is_unsynced before name
is_unsynced (After (Sync synced) before) name = not (is_name name synced) && is_unsynced before name
is_unsynced (After (Rename from to) before) name = if is_name name to then is_unsynced before from else not (is_name name from) && is_unsynced before name
is_unsynced (After (Remove removed) before) name = not (is_name name removed) && is_unsynced before name
is_unsynced (After Settle before) name = is_unsynced before name

-- A crash now may leave these files.
-- put: anything at its name. sync: what was put there is whole, or the name is as at the last settle. rename: not done, or done, and then
-- an unsynced file is anything at its new name. remove: not done, or done. settle: what reads give, but for unsynced files.
abbrev pub IsImage : Folder → Files → Type 0
IsImage (Stable files) image = image ≡ files
IsImage (After (Put put bytes) before) image = (was : Files) × IsImage before was × SameBut put was image
IsImage (After (Sync synced) before) image = IsImage before image
    × (is_unsynced before synced ≡ true → (image synced ≡ reads before synced) ⊎ (image synced ≡ settled before synced))
IsImage (After (Rename from to) before) image = IsImage before image
    ⊎ ((was : Files) × IsImage before was × SameBut to (with_file from None was) image
    × (is_unsynced before from ≡ false → image to ≡ reads before from))
IsImage (After (Remove removed) before) image = IsImage before image
    ⊎ ((was : Files) × IsImage before was × (image ≡ with_file removed None was))
IsImage (After Settle before) image = (name : List ℕ) → is_unsynced before name ≡ false → image name ≡ reads before name

-- a rename, which does nothing where the names are one
abbrev pub after_rename : List ℕ → List ℕ → Folder → Folder
after_rename from to folder = if is_name from to then folder else After (Rename from to) folder
