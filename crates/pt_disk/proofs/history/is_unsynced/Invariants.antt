use Rattle.std.proofs.Common.{◌≡◌, length}
use Rattle.pt_disk.specs.Files.{Files}
use Rattle.pt_disk.specs.Folder.{Stable, is_unsynced}
use Rattle.pt_disk.specs.DiskInMemory.{folder_after}
use Rattle.pt_disk.proofs.history.is_unsynced.Given as goal

-- what is sought after the changes that are left is what is asked for
abbrev pub invariant-loop-change : goal.invariant-loop-change
invariant-loop-change l = (files : Files) → is_unsynced (folder_after (Stable files) l.fn.changes) l.fn.name ≡ is_unsynced (folder_after (Stable files) l.left) l.sought

abbrev pub decreases-loop-change : goal.decreases-loop-change
decreases-loop-change l = length l.left
