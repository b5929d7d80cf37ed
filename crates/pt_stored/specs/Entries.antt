-- The entries of a folder's files.
use Rattle.std.specs.Prelude.{◌≡◌, ◌↔◌, ℕ, List, Contains, AllPairs, Option, Some, None, ⊤}
use Rattle.std.specs.Ordering.{nat_cmp}
use Rattle.std.specs.declared.cmp.Ordering.TheVariants.{Less}
use Rattle.std.specs.Cmp.Lexicographic.{slice_cmp}
use Rattle.pt_disk.specs.Files.{Files}
use Rattle.pt_stored.specs.Digest.{file_name}
use Rattle.pt_stored.specs.Example.{IsExampleOf}
use Rattle.pt_stored.specs.Stored.{IsStored}
use Rattle.pt_stored.specs.declared.entry.Entry.{Entry}

-- the entry shows an example
abbrev pub IsShown : Entry → Type 0
IsShown entry = IsExampleOf entry.key entry.file entry.bytes

-- the entry shows a stored pair, and its file's name
pub record IsEntry (files : Files) (entry : Entry) : Type 0 where
  pub stored : IsStored files entry.key entry.bytes
  pub named : entry.file ≡ file_name entry.key entry.bytes

-- any key is wanted, or that of this digest alone
abbrev pub IsWanted : Option (List ℕ) → List ℕ → Type 0
IsWanted None key = ⊤
IsWanted (Some wanted) key = key ≡ wanted

-- these are the entries of the wanted keys
abbrev pub AreEntries : Option (List ℕ) → Files → List Entry → Type 0
AreEntries wanted files entries = (entry : Entry) → Contains entries entry ↔ (IsEntry files entry × IsWanted wanted entry.key)

-- each entry's file name stands before all later ones in byte order, and so it stands there once
abbrev pub AreInOrder : List Entry → Type 0
AreInOrder = AllPairs (λ one other. slice_cmp nat_cmp one.file other.file ≡ Less)
