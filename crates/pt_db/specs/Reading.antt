-- What the files of a folder hold, where its disk tells it.
use Rattle.std.specs.Prelude.{◌≡◌, ◌≢◌, ℕ, List, Option, Some, None, IfSome}
use Rattle.pt_disk.specs.Files.{Files}
use Rattle.pt_disk.specs.Folder.{reads}
use Rattle.pt_disk.specs.Moments.{Told, now}
use Rattle.pt_stored.specs.Digest.{IsNameOf}
use Rattle.pt_stored.specs.Stored.{HasNoneAlike}
use Rattle.pt_stored.specs.Entries.{IsEntry, IsWanted, AreEntries}
use Rattle.pt_stored.specs.declared.entry.Entry.{Entry}

-- these are the entries of the wanted keys
abbrev pub AreTheEntries : Option (List ℕ) → Option Told → List Entry → Type 0
AreTheEntries wanted told entries = IfSome told (λ told. AreEntries wanted (reads (now told)) entries)

-- the name has the form of an example's, and its key is wanted
abbrev pub IsWantedName : Option (List ℕ) → List ℕ → Type 0
IsWantedName wanted name = (key value : List ℕ) × IsNameOf name key value × IsWanted wanted key

-- this is the wanted entry of the file of this name, or it is none
abbrev pub IsItsEntry : Option (List ℕ) → Files → List ℕ → Option Entry → Type 0
IsItsEntry wanted files name None = (entry : Entry) → IsEntry files entry → IsWanted wanted entry.key → entry.file ≢ name
IsItsEntry wanted files name (Some entry) = IsEntry files entry × IsWanted wanted entry.key × (entry.file ≡ name)

-- the same, where the disk tells
abbrev pub IsTheEntry : Option (List ℕ) → Option Told → List ℕ → Option Entry → Type 0
IsTheEntry wanted told name found = IfSome told (λ told. IsItsEntry wanted (reads (now told)) name found)

-- the file of this name has these bytes
abbrev pub Holds : Option Told → List ℕ → List ℕ → Type 0
Holds told name bytes = IfSome told (λ told. reads (now told) name ≡ Some bytes)

-- the file of this name is no value of this value's digest
abbrev pub IsFree : Option Told → List ℕ → List ℕ → Type 0
IsFree told name bytes = IfSome told (λ told. HasNoneAlike (reads (now told)) name bytes)
