-- Which lists of choices are written.
use Rattle.std.specs.Prelude.{◌≤◌, List, length, All}
use Rattle.pt_choice.specs.Limits.{IsInLimits}
use Rattle.pt_choice.specs.declared.choice.Choice.{Choice}

-- no more than 256 choices, each of which has a spelling
pub record IsWritable (list : List Choice) : Type 0 where
  pub few : length list ≤ 256
  pub each : All IsInLimits list
