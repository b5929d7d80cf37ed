use Rattle.std.proofs.Common.{◌≡◌, length}
use Rattle.pt_disk.specs.Folder.{reads}
use Rattle.pt_disk.specs.DiskInMemory.{folder_of}
use Rattle.pt_disk.proofs.history.bytes_of.Given as goal

-- what is sought after the changes that are left is what is asked for
abbrev pub invariant-loop-change : goal.invariant-loop-change
invariant-loop-change l = reads (folder_of l.fn.files l.fn.changes) l.fn.name ≡ reads (folder_of l.fn.files l.left) l.sought

abbrev pub decreases-loop-change : goal.decreases-loop-change
decreases-loop-change l = length l.left
