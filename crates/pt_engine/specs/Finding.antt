-- What is found out of one check: its outcome, and of a failure the reduction.
use Rattle.std.specs.Prelude.{◌≡◌, ◌↔◌, ℕ, Bool, true, false, List, []}
use Rattle.pt_choice.specs.declared.choice.Choice.{Choice}
use Rattle.pt_case.specs.Ending.{is_failure}
use Rattle.pt_case.specs.Step.{Answer}
use Rattle.pt_case.specs.Run.{IsRecord}
use Rattle.pt_case.specs.declared.record.Record.{Record}
use Rattle.pt_cand.specs.Minimal.{IsMinimal}
use Rattle.pt_found.specs.Trail.{IsLegal, IsSpent}
use Rattle.pt_found.specs.Leap.{Leaps}
use Rattle.pt_found.specs.Tried.{Tried}
use Rattle.pt_engine.specs.declared.outcome.Decision.{Decision}
use Rattle.pt_engine.specs.declared.outcome.Decision.TheVariants as decision
use Rattle.pt_engine.specs.declared.outcome.Outcome.{Outcome}
use Rattle.pt_found.specs.declared.finding.Verdict.{Verdict}
use Rattle.pt_found.specs.declared.finding.Verdict.TheVariants as verdict
use Rattle.pt_found.specs.declared.finding.Finding.{Finding}
use Rattle.pt_engine.specs.Outcome.{IsOutcome}

-- The first failure was reduced to this record by this trail, and the budget was spent or not.
pub record IsReduced (step : List Choice → Answer → Type 0) (budget : ℕ) (first shown : Record) (trail : List Tried) (spent : Bool) : Type 0 where
  pub legal : IsLegal step budget first trail shown
  pub is_spent : spent ≡ true ↔ IsSpent budget trail shown
  pub minimal : spent ≡ false → IsMinimal step shown
  pub leaps : Leaps step budget first trail

-- The verdict and the trail that follow from what was decided: a failure is reduced, and else nothing is tried.
abbrev pub Follows : (List Choice → Answer → Type 0) → ℕ → Decision → Verdict → List Tried → Type 0
Follows step budget decision.Passed told trail = (told ≡ verdict.Passed) × (trail ≡ [])
Follows step budget decision.GaveUp told trail = (told ≡ verdict.GaveUp) × (trail ≡ [])
Follows step budget (decision.Failed first found) told trail =
    (shown : Record) × (spent : Bool) × (told ≡ verdict.Failed shown found spent) × IsReduced step budget first shown trail spent

-- the finding of a check of this name over these stored lists
pub record IsFinding (step : List Choice → Answer → Type 0) (name : List ℕ) (seed runs budget : ℕ) (stored : List (List Choice)) (finding : Finding) : Type 0 where
  pub outcome : Outcome
  pub is : IsOutcome step seed runs stored outcome
  pub named : finding.name ≡ name
  pub asked : finding.runs ≡ runs
  pub allowed : finding.budget ≡ budget
  pub flags : finding.failing ≡ outcome.failing
  pub seen : finding.seen ≡ outcome.seen
  pub valid : finding.valid ≡ outcome.valid
  pub follows : Follows step budget outcome.decision finding.verdict finding.trail

-- a failure that is shown is the record of its own choices, and fails
abbrev pub ReplaysItself : (List Choice → Answer → Type 0) → Verdict → Type 0
ReplaysItself step verdict.Passed = Unit {0}
ReplaysItself step verdict.GaveUp = Unit {0}
ReplaysItself step (verdict.Failed shown found spent) = IsRecord step shown.choices shown × (is_failure shown.ending ≡ true)

-- a first failure is the record of its own choices, and fails
abbrev pub FailsItself : (List Choice → Answer → Type 0) → Decision → Type 0
FailsItself step decision.Passed = Unit {0}
FailsItself step decision.GaveUp = Unit {0}
FailsItself step (decision.Failed first found) = IsRecord step first.choices first × (is_failure first.ending ≡ true)
