use Rattle.std.proofs.Common.{refl}
use Rattle.pt_disk.proofs.Memory.{makes-changed}
use Rattle.pt_disk.proofs.memory_disk.MemoryDiskDisk.settle.Goals as goal

pub returns-clause-changes : goal.returns-clause-changes
returns-clause-changes c = makes-changed _ _ _ _ (c.make.ensures.makes _ refl)
