use Rattle.std.proofs.Common.{is_err, ap}
use Rattle.pt_disk.proofs.Memory.{begun-cause, err-of}
use Rattle.pt_disk.proofs.memory_disk.MemoryDiskDisk.names.Goals as goal

pub returns-in_err-begin-clause-cause : goal.returns-in_err-begin-clause-cause
returns-in_err-begin-clause-cause c =
    begun-cause c.begin.result c.from_residual.result _ _ c.begin.ensures.cause (ap is_err c.in_err-begin.was) (err-of c.from_residual.result c.from_residual.ensures.1)
