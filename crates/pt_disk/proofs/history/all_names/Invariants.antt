use Rattle.std.proofs.Common.{◌≡◌, ℕ, List, take}
use Rattle.std.specs.List.{list_any}
use Rattle.pt_disk.specs.Files.{is_name}
use Rattle.pt_disk.specs.DiskInMemory.{folder_of}
use Rattle.pt_disk.specs.Named.{mentions}
use Rattle.pt_disk.proofs.history.all_names.Given as goal

-- the names are those of the files so far
abbrev pub invariant-loop-file : goal.invariant-loop-file
invariant-loop-file l = (name : List ℕ) →
    list_any (λ one. is_name name one.now) l.names.items ≡ list_any (λ file. is_name name file.0) (take l.file-index l.files)

-- the names are those that the files and the changes so far mention
abbrev pub invariant-loop-change : goal.invariant-loop-change
invariant-loop-change l = (name : List ℕ) →
    list_any (λ one. is_name name one.now) l.names.items ≡ mentions (folder_of l.fn.files (take l.change-index l.changes)) name
