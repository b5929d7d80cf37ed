-- What the stored lists and the runs of a check come to.
use Rattle.std.specs.Prelude.{◌≡◌, ℕ, ◌*◌, ◌<◌, Bool, true, List, [], ◌∷◌, ◌++◌, length, map}
use Rattle.std.specs.List.{Contains, count_by}
use Rattle.pt_choice.specs.declared.choice.Choice.{Choice}
use Rattle.pt_choice.specs.Order.{IsShorter}
use Rattle.pt_case.specs.Step.{Answer}
use Rattle.pt_case.specs.Run.{IsRecord}
use Rattle.pt_case.specs.Ending.{is_pass, is_failure}
use Rattle.pt_case.specs.declared.record.Record.{Record}
use Rattle.pt_case.specs.Runs.{AreRuns}
use Rattle.pt_found.specs.declared.finding.Found.TheVariants.{Stored, Run}
use Rattle.pt_engine.specs.declared.outcome.Decision.{Decision}
use Rattle.pt_engine.specs.declared.outcome.Decision.TheVariants.{Passed, GaveUp, Failed}
use Rattle.pt_engine.specs.declared.outcome.Outcome.{Outcome}

-- these are the records of these lists, one after another
abbrev pub AreRecords : (List Choice → Answer → Type 0) → List (List Choice) → List Record → Type 0
AreRecords step [] records = records ≡ []
AreRecords step (list ∷ lists) [] = ⊥
AreRecords step (list ∷ lists) (rec ∷ records) = IsRecord step list rec × AreRecords step lists records

-- for each record, whether it fails
abbrev pub flags_of : List Record → List Bool
flags_of records = map (λ rec. is_failure rec.ending) records

-- how many of the records passed
abbrev pub passes : List Record → ℕ
passes records = count_by (λ rec. is_pass rec.ending) records

-- how many of them failed
abbrev pub failures : List Record → ℕ
failures records = count_by (λ rec. is_failure rec.ending) records

-- one of the records fails, and no failing one has shorter or lower choices
pub record IsLeastFailure (records : List Record) (least : Record) : Type 0 where
  pub among : Contains records least
  pub fails : is_failure least.ending ≡ true
  pub least_choices : (other : Record) → Contains records other → is_failure other.ending ≡ true → ¬ IsShorter other.choices least.choices

-- These runs decide nothing yet: none failed, and fewer passed than were asked for.
pub record AreOpen (runs : ℕ) (records : List Record) : Type 0 where
  pub none_failed : failures records ≡ 0
  pub not_enough : passes records < runs

-- The last of these runs decides: those before it are open and fewer than ten times as many as were asked for, and it fails or is
-- the last pass that was asked for; or all are open, and there are ten times as many as were asked for.
abbrev pub Decides : ℕ → List Record → Decision → Type 0
Decides runs records Passed =
    (before : List Record) × (last : Record) × (records ≡ before ++ last ∷ []) × AreOpen runs before
    × (length before < 10 * runs) × (passes records ≡ runs)
Decides runs records (Failed first (Run run)) =
    (before : List Record) × (records ≡ before ++ first ∷ []) × AreOpen runs before
    × (length before < 10 * runs) × (is_failure first.ending ≡ true) × (run ≡ length before)
Decides runs records (Failed first Stored) = ⊥
Decides runs records GaveUp = AreOpen runs records × (length records ≡ 10 * runs)

-- Runs 0, 1 and so on were made up to the one that decides, and counted.
pub record AreCounted (step : List Choice → Answer → Type 0) (seed runs : ℕ) (decision : Decision) (seen valid : ℕ) : Type 0 where
  pub records : List Record
  pub made : AreRuns step seed 0 seen records
  pub decided : Decides runs records decision
  pub all_seen : seen ≡ length records
  pub all_valid : valid ≡ passes records

-- What is decided, and what is counted: by the least failing record of the stored lists, and where none of them fails, by the runs.
abbrev pub IsDecided : (List Choice → Answer → Type 0) → ℕ → ℕ → List Record → Decision → ℕ → ℕ → Type 0
IsDecided step seed runs stored (Failed first Stored) seen valid = IsLeastFailure stored first × (seen ≡ 0) × (valid ≡ 0)
IsDecided step seed runs stored (Failed first (Run run)) seen valid =
    (failures stored ≡ 0) × AreCounted step seed runs (Failed first (Run run)) seen valid
IsDecided step seed runs stored Passed seen valid = (failures stored ≡ 0) × AreCounted step seed runs Passed seen valid
IsDecided step seed runs stored GaveUp seen valid = (failures stored ≡ 0) × AreCounted step seed runs GaveUp seen valid

-- the outcome of a check over these stored lists
pub record IsOutcome (step : List Choice → Answer → Type 0) (seed runs : ℕ) (stored : List (List Choice)) (outcome : Outcome) : Type 0 where
  pub records : List Record
  pub replayed : AreRecords step stored records
  pub flags : outcome.failing ≡ flags_of records
  pub decided : IsDecided step seed runs records outcome.decision outcome.seen outcome.valid
