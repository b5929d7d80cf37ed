-- What a save and a delete do to a folder and its stored set.
use Rattle.std.specs.Prelude.{◌≡◌, ◌⊎◌, ℕ, Bool, true, List, Option, Some, None}
use Rattle.pt_disk.specs.Files.{Files, SameBut, with_file}
use Rattle.pt_disk.specs.Folder.{Folder, After, after_rename, reads, IsImage}
use Rattle.pt_disk.specs.Moments.{Told, now, Elapsed, BothTell}
use Rattle.pt_disk.specs.Leaves.{Leaves, OneOf, IsAtRest}
use Rattle.pt_disk.specs.declared.change.Change.TheVariants.{Put, Sync, Remove, Settle}
use Rattle.pt_stored.specs.Digest.{digest_text, file_name}
use Rattle.pt_stored.specs.Stored.{StoredWith, StoredWithout, pending}

-- A crash leaves these files, or these with that file under the name, and then their stored set has the edit; the spare file aside. And no file but
-- the spare one has a put that was not synced.
abbrev pub LeavesEither : (Files → Files → Type 0) → List ℕ → Option (List ℕ) → Files → Folder → Type 0
LeavesEither Edit name file files = Leaves pending (λ image. SameBut pending files image ⊎ (Edit files image × SameBut pending (with_file name file files) image))

-- A call that edits the stored set by that file under the name, whatever it answers.
pub record Edited (Edit : Files → Files → Type 0) (name : List ℕ) (file : Option (List ℕ)) (ok : Bool) (old new : Told) : Type 0 where
  pub edited : ok ≡ true → Edit (reads (now old)) (reads (now new))
  -- the files read as before, but perhaps this one, which is that file then
  pub files : ok ≡ true → OneOf pending name file (reads (now old)) (reads (now new))
  -- where the disk was at rest at the start: it is at rest again, and a crash keeps the edit
  pub rests : IsAtRest pending (now old) → ok ≡ true → IsAtRest pending (now new)
  pub kept : IsAtRest pending (now old) → ok ≡ true → (image : Files) → IsImage (now new) image → Edit (reads (now old)) image
  -- and at each moment since the start a crash leaves the files from then, or these with the edit
  pub any_moment : IsAtRest pending (now old) → Elapsed (LeavesEither Edit name file (reads (now old))) old new

abbrev pub Edits : (Files → Files → Type 0) → List ℕ → Option (List ℕ) → Bool → Option Told → Option Told → Type 0
Edits Edit name file ok = BothTell (Edited Edit name file ok)

-- the name of the file of this value under this key
abbrev pub name_of : List ℕ → List ℕ → List ℕ
name_of key value = file_name (digest_text key) value

-- the stored set gets this value of this key, and loses it
abbrev pub Saves : List ℕ → List ℕ → Bool → Option Told → Option Told → Type 0
Saves key value = Edits (StoredWith (digest_text key) value) (name_of key value) (Some value)

abbrev pub Deletes : List ℕ → List ℕ → Bool → Option Told → Option Told → Type 0
Deletes key value = Edits (StoredWithout (digest_text key) value) (name_of key value) None

-- at each moment since the start the folder is as it was then, where this holds of what reads gave
abbrev pub RestsWhere : (Files → Type 0) → Option Told → Option Told → Type 0
RestsWhere Holds = BothTell (λ old new. Holds (reads (now old)) → Elapsed (λ folder. folder ≡ now old) old new)

-- nothing was changed, or the folder is as after these calls
abbrev pub IsSameOr : (Folder → Folder) → Option Told → Option Told → Type 0
IsSameOr calls = BothTell (λ old new. (now new ≡ now old) ⊎ (now new ≡ calls (now old)))

-- the four calls of a save, and the two of a delete
abbrev pub saved_as : List ℕ → List ℕ → Folder → Folder
saved_as name bytes folder = After Settle (after_rename pending name (After (Sync pending) (After (Put pending bytes) folder)))

abbrev pub removed : List ℕ → Folder → Folder
removed name folder = After Settle (After (Remove name) folder)
