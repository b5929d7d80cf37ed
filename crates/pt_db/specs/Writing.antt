-- How one file of a folder is written or removed.
use Rattle.std.specs.Prelude.{◌≡◌, ℕ, Bool, true, List, Option}
use Rattle.pt_disk.specs.Folder.{Folder, reads}
use Rattle.pt_disk.specs.Moments.{Told, now, Elapsed, BothTell}
use Rattle.pt_disk.specs.Leaves.{Leaves, OneOf, IsAtRest}
use Rattle.pt_stored.specs.Stored.{pending}

-- a crash leaves the files of the start, or these with this file under this name
abbrev pub LeavesOne : List ℕ → Option (List ℕ) → Folder → Folder → Type 0
LeavesOne name file start = Leaves pending (OneOf pending name file (reads start))

-- These calls were made, or some of them, and one failed. From a disk at rest a crash leaves the files of the start, or these with this file.
pub record Reached (name : List ℕ) (file : Option (List ℕ)) (calls : Folder → Folder) (ok : Bool) (old new : Told) : Type 0 where
  pub here : ok ≡ true → now new ≡ calls (now old)
  pub moments : IsAtRest pending (now old) → Elapsed (LeavesOne name file (now old)) old new

abbrev pub Reaches : List ℕ → Option (List ℕ) → (Folder → Folder) → Bool → Option Told → Option Told → Type 0
Reaches name file calls ok = BothTell (Reached name file calls ok)
