-- What is found out of one check by all of its runs.
use Rattle.std.specs.Prelude.{◌≡◌, ◌≢◌, ◌↔◌, ℕ, ◌/◌, ◌<◌, nat_lt, true, false, Some, List, length, slice_get, if◌then◌else◌}
use Rattle.pt_choice.specs.declared.choice.Choice.{Choice}
use Rattle.pt_case.specs.Ending.{is_failure}
use Rattle.pt_case.specs.Step.{Answer}
use Rattle.pt_case.specs.Run.{IsRecord}
use Rattle.pt_case.specs.declared.record.Record.{Record}
use Rattle.pt_cand.specs.Minimal.{IsMinimal}
use Rattle.pt_found.specs.Trail.{IsLegal, IsSpent}
use Rattle.pt_found.specs.Leap.{Leaps}
use Rattle.pt_found.specs.declared.survey.Fault.{Fault}
use Rattle.pt_found.specs.declared.survey.Survey.{Survey}
use Rattle.pt_all.specs.Window.{IsWindow, passes}
use Rattle.pt_all.specs.Origins.{origins, times_of}

-- the lists that the reduction at this place may try: a sixteenth of the budget at each of the first sixteen, and none behind them
abbrev pub share_of : ℕ → ℕ → ℕ
share_of budget place = if nat_lt place 16 then budget / 16 else 0

-- of the runs that ended as this record does, the first has this number and left this record
pub record IsFirst (records : List Record) (run : ℕ) (first : Record) : Type 0 where
  pub stands : slice_get records run ≡ Some first
  pub earliest : (before : ℕ) (rec : Record) → before < run → slice_get records before ≡ Some rec → rec.ending ≢ first.ending

-- The fault shows what this failure was reduced to, by its trail within its budget.
pub record IsReduced (step : List Choice → Answer → Type 0) (first : Record) (fault : Fault) : Type 0 where
  pub legal : IsLegal step fault.budget first fault.trail fault.shown
  pub is_spent : fault.spent ≡ true ↔ IsSpent fault.budget fault.trail fault.shown
  pub minimal : fault.spent ≡ false → IsMinimal step fault.shown
  pub leaps : Leaps step fault.budget first fault.trail

-- The fault of the origin at this place: its first run, how often it came, and what its first failure was reduced to.
pub record IsFault (step : List Choice → Answer → Type 0) (budget : ℕ) (records : List Record) (place : ℕ) (fault : Fault) : Type 0 where
  pub first : Record
  pub origin : slice_get (origins records) place ≡ Some first.ending
  pub began : IsFirst records fault.run first
  pub counted : fault.times ≡ times_of first.ending records
  pub allowed : fault.budget ≡ share_of budget place
  pub reduced : IsReduced step first fault

-- The survey of a check of this name: its window is counted, and each origin there has one fault, in order.
pub record IsSurvey (step : List Choice → Answer → Type 0) (name : List ℕ) (seed runs budget : ℕ) (survey : Survey) : Type 0 where
  pub records : List Record
  pub window : IsWindow step seed runs records
  pub named : survey.name ≡ name
  pub asked : survey.runs ≡ runs
  pub seen : survey.seen ≡ length records
  pub valid : survey.valid ≡ passes records
  pub one_each : length survey.faults ≡ length (origins records)
  pub each : (place : ℕ) (fault : Fault) → slice_get survey.faults place ≡ Some fault → IsFault step budget records place fault

-- the failure that is shown is the record of its own choices, and fails
abbrev pub ReplaysItself : (List Choice → Answer → Type 0) → Fault → Type 0
ReplaysItself step fault = IsRecord step fault.shown.choices fault.shown × (is_failure fault.shown.ending ≡ true)
