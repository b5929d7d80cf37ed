use Rattle.std.proofs.Common.{◌≡◌, length}
use Rattle.pt_disk.specs.Kept.{without_unstable}
use Rattle.pt_disk.specs.DiskInMemory.{folder_of}
use Rattle.pt_disk.proofs.image.without_unstable.Given as goal

-- the changes that are left decide
abbrev pub invariant-loop-change : goal.invariant-loop-change
invariant-loop-change l =
    without_unstable l.fn.keep (folder_of l.fn.files l.fn.changes) l.fn.name ≡ without_unstable l.fn.keep (folder_of l.fn.files l.left) l.fn.name

abbrev pub decreases-loop-change : goal.decreases-loop-change
decreases-loop-change l = length l.left
