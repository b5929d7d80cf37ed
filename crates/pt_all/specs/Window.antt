-- Which runs of a check are surveyed.
use Rattle.std.specs.Prelude.{◌≡◌, ◌⊎◌, ℕ, ◌*◌, ◌<◌, Bool, ◌||◌, List, length, take}
use Rattle.std.specs.List.{count_by}
use Rattle.pt_choice.specs.declared.choice.Choice.{Choice}
use Rattle.pt_case.specs.Ending.{is_pass, is_failure}
use Rattle.pt_case.specs.Runs.{AreRuns}
use Rattle.pt_case.specs.Step.{Answer}
use Rattle.pt_case.specs.declared.record.Record.{Record}

-- how many of the records passed
abbrev pub passes : List Record → ℕ
passes records = count_by (λ rec. is_pass rec.ending) records

-- it passed or failed
abbrev pub is_settled : Record → Bool
is_settled rec = is_pass rec.ending || is_failure rec.ending

-- how many of the records passed or failed
abbrev pub settled : List Record → ℕ
settled records = count_by is_settled records

-- as many of these runs as were asked for passed or failed, or there are ten times as many
abbrev pub AreEnough : ℕ → List Record → Type 0
AreEnough runs records = (settled records ≡ runs) ⊎ (length records ≡ 10 * runs)

-- the records of the runs 0, 1 and so on, which are enough, and no fewer of them are
pub record IsWindow (step : List Choice → Answer → Type 0) (seed runs : ℕ) (records : List Record) : Type 0 where
  pub made : AreRuns step seed 0 (length records) records
  pub enough : AreEnough runs records
  pub least : (n : ℕ) → n < length records → ¬ AreEnough runs (take n records)
