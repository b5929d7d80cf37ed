-- A folder as time goes on.
use Rattle.std.specs.Prelude.{◌≡◌, ◌⊎◌, ◌<◌, ◌≤◌, ℕ, true, List, Option, Some, None}
use Rattle.pt_disk.specs.Files.{Files}
use Rattle.pt_disk.specs.Folder.{Folder, IsImage, is_unsynced}

-- what a disk tells: the moment, and the folder at each moment up to it
pub record Told : Type 0 where
  pub clock : ℕ
  pub moments : ℕ → Folder

abbrev pub now : Told → Folder
now told = told.moments told.clock

-- a crash at some moment from this one on might have left these files
abbrev pub IsImageSince : Told → ℕ → Files → Type 0
IsImageSince told moment image = (t : ℕ) × (moment ≤ t) × (t ≤ told.clock) × IsImage (told.moments t) image

-- Time goes on: the past stays as it was, and at each new moment this holds of the folder.
pub record Elapsed (Holds : Folder → Type 0) (old new : Told) : Type 0 where
  pub later : old.clock ≤ new.clock
  pub kept : (t : ℕ) → t ≤ old.clock → new.moments t ≡ old.moments t
  pub since : (t : ℕ) → old.clock < t → t ≤ new.clock → Holds (new.moments t)

-- what a stop within a call may leave, between this folder and that
pub record IsWithin (before after folder : Folder) : Type 0 where
  pub images : (image : Files) → IsImage folder image → IsImage before image ⊎ IsImage after image
  pub unsynced : (name : List ℕ) → is_unsynced folder name ≡ true → (is_unsynced before name ≡ true) ⊎ (is_unsynced after name ≡ true)

-- both disks tell, and this holds of what they tell, or neither tells
abbrev pub BothTell : (Told → Told → Type 0) → Option Told → Option Told → Type 0
BothTell Holds None None = Unit {0}
BothTell Holds (Some old) (Some new) = Holds old new
BothTell Holds None (Some new) = ⊥
BothTell Holds (Some old) None = ⊥
