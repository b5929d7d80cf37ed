use Rattle.pt_disk.proofs.Memory.{makes-changed}
use Rattle.pt_disk.proofs.memory_disk.MemoryDiskDisk.put.Goals as goal

pub returns-clause-changes : goal.returns-clause-changes
returns-clause-changes c = makes-changed _ _ _ _ (c.make-2.ensures.makes _ c.put_of.ensures)
