use Rattle.std.proofs.Common.{◌≡◌, take}
use Rattle.std.specs.List.{filter_map}
use Rattle.pt_disk.specs.Kept.{kept}
use Rattle.pt_disk.specs.DiskInMemory.{folder_of}
use Rattle.pt_disk.proofs.Listed.{file_at}
use Rattle.pt_disk.proofs.image.kept_files.Given as goal

-- of the names so far these are kept
abbrev pub invariant-loop-name : goal.invariant-loop-name
invariant-loop-name l = l.image ≡ filter_map (file_at (λ one. one.now) (kept l.fn.keep (folder_of l.fn.files l.fn.changes))) (take l.name-index l.name-items)
