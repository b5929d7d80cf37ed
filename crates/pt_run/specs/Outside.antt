-- What a call of the program sees and changes outside itself.
use Rattle.std.specs.Prelude.{ℕ, Option}
use Rattle.pt_disk.specs.Moments.{Told}
use Rattle.pt_io.specs.Files.{Shown}
use Rattle.pt_io.specs.Sink.{Written}
use Rattle.pt_turns.specs.Scene.{DiskShown, disk_shown, Scene}

-- what the outside shows at a moment
pub record Outside : Type 0 where
  pub files : Shown
  pub disk : DiskShown
  pub sink : Written

abbrev pub outside : Shown → ℕ → Option Told → Written → Outside
outside files faults told sink = record { files = files; disk = disk_shown faults told; sink = sink }

-- what a run changes of it
abbrev pub scene_of : Outside → Scene
scene_of outside = record { disk = outside.disk; sink = outside.sink }
