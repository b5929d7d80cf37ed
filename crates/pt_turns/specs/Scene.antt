-- What the turns of items change, as it is seen at a moment.
use Rattle.std.specs.Prelude.{ℕ, Option}
use Rattle.pt_disk.specs.Moments.{Told}
use Rattle.pt_io.specs.Sink.{Written}

-- how many calls of a disk failed, and its folder, where it tells
pub record DiskShown : Type 0 where
  pub faults : ℕ
  pub told : Option Told

abbrev pub disk_shown : ℕ → Option Told → DiskShown
disk_shown faults told = record { faults = faults; told = told }

-- the disk and the output
pub record Scene : Type 0 where
  pub disk : DiskShown
  pub sink : Written

abbrev pub scene : ℕ → Option Told → Written → Scene
scene faults told sink = record { disk = disk_shown faults told; sink = sink }
