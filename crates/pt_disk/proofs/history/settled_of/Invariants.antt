use Rattle.std.proofs.Common.{◌≡◌, length}
use Rattle.pt_disk.specs.Folder.{settled}
use Rattle.pt_disk.specs.DiskInMemory.{folder_of}
use Rattle.pt_disk.proofs.history.settled_of.Given as goal

-- the last settle is among the changes that are left
abbrev pub invariant-loop-change : goal.invariant-loop-change
invariant-loop-change l = settled (folder_of l.fn.files l.fn.changes) l.fn.name ≡ settled (folder_of l.fn.files l.left) l.fn.name

abbrev pub decreases-loop-change : goal.decreases-loop-change
decreases-loop-change l = length l.left
