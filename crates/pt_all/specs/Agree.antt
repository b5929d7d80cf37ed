-- Two surveys that differ in their reductions alone.
use Rattle.std.specs.Prelude.{◌≡◌, ℕ, Some, List, length, slice_get}
use Rattle.pt_choice.specs.declared.choice.Choice.{Choice}
use Rattle.pt_case.specs.Step.{Answer}
use Rattle.pt_case.specs.declared.record.Record.{Record}
use Rattle.pt_found.specs.declared.survey.Fault.{Fault}
use Rattle.pt_found.specs.declared.survey.Survey.{Survey}
use Rattle.pt_all.specs.Survey.{IsReduced}

-- the two faults are of one origin, and both reductions began at one failure
pub record AreOfOne (step : List Choice → Answer → Type 0) (one other : Fault) : Type 0 where
  pub run : one.run ≡ other.run
  pub times : one.times ≡ other.times
  pub budget : one.budget ≡ other.budget
  pub ending : one.shown.ending ≡ other.shown.ending
  pub first : Record
  pub reduced : IsReduced step first one
  pub again : IsReduced step first other

-- two surveys of one check agree in all but the shown records, the trails and whether budgets were spent
pub record Agree (step : List Choice → Answer → Type 0) (one other : Survey) : Type 0 where
  pub name : one.name ≡ other.name
  pub runs : one.runs ≡ other.runs
  pub seen : one.seen ≡ other.seen
  pub valid : one.valid ≡ other.valid
  pub as_many : length one.faults ≡ length other.faults
  pub each : (place : ℕ) (a b : Fault) → slice_get one.faults place ≡ Some a → slice_get other.faults place ≡ Some b → AreOfOne step a b
