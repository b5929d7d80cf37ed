-- The names that a folder has, or had after one of its changes.
use Rattle.std.specs.Prelude.{ℕ, Bool, false, ◌||◌, is_some, List, Option, Some, None}
use Rattle.pt_disk.specs.Files.{is_name}
use Rattle.pt_disk.specs.Folder.{Folder, Stable, After}
use Rattle.pt_disk.specs.declared.change.Change.{Change}
use Rattle.pt_disk.specs.declared.change.Change.TheVariants.{Put, Sync, Rename, Remove, Settle}

-- the name that a change gives to a file
abbrev pub name_given : Change → Option (List ℕ)
name_given (Put put bytes) = Some put
name_given (Sync synced) = None
name_given (Rename from to) = Some to
name_given (Remove removed) = None
name_given Settle = None

abbrev pub is_given : Option (List ℕ) → List ℕ → Bool
is_given None name = false
is_given (Some given) name = is_name name given

-- a file at the start has this name, or a change gave it to one
abbrev pub mentions : Folder → List ℕ → Bool
mentions (Stable files) name = is_some (files name)
mentions (After change before) name = is_given (name_given change) name || mentions before name
