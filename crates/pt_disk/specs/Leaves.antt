-- What a crash leaves of a folder in which one name is spare.
use Rattle.std.specs.Prelude.{◌≡◌, ◌⊎◌, ℕ, true, List, Option}
use Rattle.pt_disk.specs.Files.{Files, SameBut, with_file}
use Rattle.pt_disk.specs.Folder.{Folder, IsImage, is_unsynced, reads}

-- no file but the spare one has a put that was not synced
abbrev pub IsTidy : List ℕ → Folder → Type 0
IsTidy spare folder = (name : List ℕ) → is_unsynced folder name ≡ true → name ≡ spare

-- A crash leaves files that have P, and no file but the spare one has a put that was not synced.
pub record Leaves (spare : List ℕ) (P : Files → Type 0) (folder : Folder) : Type 0 where
  pub images : (image : Files) → IsImage folder image → P image
  pub tidy : IsTidy spare folder

-- every image is these files, but for the spare name
abbrev pub Only : List ℕ → Files → Folder → Type 0
Only spare files = Leaves spare (SameBut spare files)

-- these files, or these with that file under the name; the spare one aside
abbrev pub OneOf : List ℕ → List ℕ → Option (List ℕ) → Files → Files → Type 0
OneOf spare name file files image = SameBut spare files image ⊎ SameBut spare (with_file name file files) image

-- every image is what reads give, but for the spare name
abbrev pub IsAtRest : List ℕ → Folder → Type 0
IsAtRest spare folder = Only spare (reads folder) folder
