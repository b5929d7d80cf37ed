-- What contracts see of a disk in memory.
use Rattle.std.specs.Prelude.{◌≡◌, ◌↔◌, ◌⊎◌, ℕ, Bool, true, false, List, [], ◌∷◌, ◌++◌, length, take, Contains, find}
use Rattle.std.specs.Option.{option_map}
use Rattle.pt_choice.specs.Faults.{next_count}
use Rattle.pt_disk.specs.Files.{Files, is_name}
use Rattle.pt_disk.specs.Folder.{Folder, Stable, After}
use Rattle.pt_disk.specs.Moments.{Told}
use Rattle.pt_disk.specs.declared.change.Change.{Change}

-- the files at its start, the changes since, the oldest first, the calls that are to fail, and how many calls there
-- were, failed, and found no memory
pub record DiskInMemory : Type 0 where
  pub files : List (List ℕ × List ℕ)
  pub changes : List Change
  pub failing : List ℕ
  pub calls : ℕ
  pub faults : ℕ
  pub starved : ℕ

-- a disk that was never called
abbrev pub new_disk : List (List ℕ × List ℕ) → List ℕ → DiskInMemory
new_disk files failing = record { files = files; changes = []; failing = failing; calls = 0; faults = 0; starved = 0 }

-- the bytes of the first file of this name
abbrev pub content_of : List (List ℕ × List ℕ) → Files
content_of files name = option_map (λ file. file.1) (find (λ file. is_name file.0 name) files)

-- the folder after these changes
abbrev pub folder_after : Folder → List Change → Folder
folder_after folder [] = folder
folder_after folder (change ∷ changes) = folder_after (After change folder) changes

-- these files, all of them stable, and then these changes
abbrev pub folder_of : List (List ℕ × List ℕ) → List Change → Folder
folder_of files changes = folder_after (Stable (content_of files)) changes

-- at each moment, the folder after so many changes
abbrev pub shown : DiskInMemory → Told
shown disk = record { clock = length disk.changes; moments = λ t. folder_of disk.files (take t disk.changes) }

-- the next call is to fail
abbrev pub FailsNext : DiskInMemory → Type 0
FailsNext disk = Contains disk.failing (next_count disk.calls)

-- after a call that changed nothing, one that made this change, one that was to fail, and one that found no memory
abbrev pub after_call : DiskInMemory → DiskInMemory
after_call disk = record disk { calls = next_count disk.calls }

abbrev pub after_change : Change → DiskInMemory → DiskInMemory
after_change change disk = record disk { changes = disk.changes ++ change ∷ []; calls = next_count disk.calls }

abbrev pub after_failure : DiskInMemory → DiskInMemory
after_failure disk = record disk { calls = next_count disk.calls; faults = next_count disk.faults }

abbrev pub after_want : DiskInMemory → DiskInMemory
after_want disk = record disk { calls = next_count disk.calls; faults = next_count disk.faults; starved = next_count disk.starved }

-- A call that changes nothing failed exactly where it was to.
pub record Answers (old : DiskInMemory) (failed : Type 0) (new : DiskInMemory) : Type 0 where
  pub fails : failed ↔ FailsNext old
  pub failure : failed → new ≡ after_failure old
  pub answer : ¬ failed → new ≡ after_call old

-- the change was made, or the call failed: it was to, or it found no memory
abbrev pub Makes : Change → DiskInMemory → Bool → DiskInMemory → Type 0
Makes change old true new = ¬ FailsNext old × (new ≡ after_change change old)
Makes change old false new = (FailsNext old × (new ≡ after_failure old)) ⊎ (¬ FailsNext old × (new ≡ after_want old))

-- it was never called, no call of it is to fail, and its files are these
pub record IsDiskOf (files : Files) (disk : DiskInMemory) : Type 0 where
  pub holds : content_of disk.files ≡ files
  pub fresh : disk ≡ new_disk disk.files []
