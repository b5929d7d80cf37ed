use Rattle.std.proofs.Common.{◌≡◌, take}
use Rattle.std.specs.List.{filter_map}
use Rattle.pt_disk.specs.Folder.{reads}
use Rattle.pt_disk.specs.DiskInMemory.{folder_of}
use Rattle.pt_disk.proofs.Listed.{name_at}
use Rattle.pt_disk.proofs.history.names_of.Given as goal

-- of the names so far these are there
abbrev pub invariant-loop-name : goal.invariant-loop-name
invariant-loop-name l = l.names ≡ filter_map (name_at (λ one. one.now) (reads (folder_of l.fn.files l.fn.changes))) (take l.name-index l.name-items)
