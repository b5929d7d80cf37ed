-- Files that are all stable, after the first calls of a save, and of a delete.
use Rattle.std.specs.Prelude.{ℕ, List, Some, None}
use Rattle.pt_disk.specs.Files.{Files, with_file}
use Rattle.pt_disk.specs.Folder.{Folder, Stable, After}
use Rattle.pt_disk.specs.declared.change.Change.TheVariants.{Put, Sync, Rename, Remove}

-- the bytes were put under a spare name, synced there, and renamed to the name that they are to have
abbrev pub put_under : Files → List ℕ → List ℕ → Folder
put_under files spare bytes = After (Put spare bytes) (Stable files)

abbrev pub synced_under : Files → List ℕ → List ℕ → Folder
synced_under files spare bytes = After (Sync spare) (put_under files spare bytes)

abbrev pub renamed_to : Files → List ℕ → List ℕ → List ℕ → Folder
renamed_to files spare name bytes = After (Rename spare name) (synced_under files spare bytes)

-- the files with these bytes under the name, and without the spare one
abbrev pub replaced : Files → List ℕ → List ℕ → List ℕ → Files
replaced files spare name bytes = with_file name (Some bytes) (with_file spare None files)

-- the file of a name was removed
abbrev pub removed_from : Files → List ℕ → Folder
removed_from files name = After (Remove name) (Stable files)
