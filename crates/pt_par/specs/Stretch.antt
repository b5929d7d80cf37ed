-- The runs of one worker.
use Rattle.std.specs.Prelude.{◌+◌, ◌*◌, ℕ, List, min}
use Rattle.pt_choice.specs.declared.choice.Choice.{Choice}
use Rattle.pt_case.specs.Step.{Answer}
use Rattle.pt_case.specs.Runs.{AreRuns}
use Rattle.pt_case.specs.declared.record.Record.{Record}

-- runs from the one number up to but without the other go in stretches of one size, the last one cut off; these are the records of the stretch
-- of this number
abbrev pub IsStretch : (List Choice → Answer → Type 0) → ℕ → ℕ → ℕ → ℕ → ℕ → List Record → Type 0
IsStretch step seed from to size number records = AreRuns step seed (min to (from + number * size)) (min to (from + (number + 1) * size)) records
