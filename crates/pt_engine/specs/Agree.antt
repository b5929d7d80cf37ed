-- Two findings that differ in their reduction alone.
use Rattle.std.specs.Prelude.{◌≡◌, ℕ, Bool, List}
use Rattle.pt_choice.specs.declared.choice.Choice.{Choice}
use Rattle.pt_case.specs.Step.{Answer}
use Rattle.pt_case.specs.declared.record.Record.{Record}
use Rattle.pt_found.specs.Tried.{Tried}
use Rattle.pt_found.specs.declared.finding.Verdict.{Verdict}
use Rattle.pt_found.specs.declared.finding.Verdict.TheVariants.{Passed, GaveUp, Failed}
use Rattle.pt_found.specs.declared.finding.Finding.{Finding}
use Rattle.pt_engine.specs.Finding.{IsReduced}

module _ (step : List Choice → Answer → Type 0) (budget : ℕ) where
  -- one first failure was reduced to both of these, by a trail each; so they end alike
  pub record AreOfOne (shown other : Record) (trail more : List Tried) (spent used : Bool) : Type 0 where
    pub first : Record
    pub one : IsReduced step budget first shown trail spent
    pub again : IsReduced step budget first other more used
    pub ending : shown.ending ≡ other.ending

  -- verdicts of one sort; two failures were found in the same place, and are reductions of one
  abbrev pub AreAlike : Verdict → Verdict → List Tried → List Tried → Type 0
  AreAlike Passed other trail more = other ≡ Passed
  AreAlike GaveUp other trail more = other ≡ GaveUp
  AreAlike (Failed shown found spent) Passed trail more = ⊥
  AreAlike (Failed shown found spent) GaveUp trail more = ⊥
  AreAlike (Failed shown found spent) (Failed other place used) trail more = (found ≡ place) × AreOfOne shown other trail more spent used

-- two findings of one check agree in all but the shown record, the trail and whether the budget was spent
pub record Agree (step : List Choice → Answer → Type 0) (one other : Finding) : Type 0 where
  pub name : one.name ≡ other.name
  pub runs : one.runs ≡ other.runs
  pub budget : one.budget ≡ other.budget
  pub failing : one.failing ≡ other.failing
  pub seen : one.seen ≡ other.seen
  pub valid : one.valid ≡ other.valid
  pub verdict : AreAlike step one.budget one.verdict other.verdict one.trail other.trail
