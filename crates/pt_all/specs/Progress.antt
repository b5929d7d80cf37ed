-- How far the runs have come, and what is kept of those that failed.
use Rattle.std.specs.Prelude.{◌≡◌, ℕ, ◌+◌, not, List, [], ◌∷◌, length, if◌then◌else◌}
use Rattle.std.specs.List.{filter}
use Rattle.pt_choice.specs.declared.choice.Choice.{Choice}
use Rattle.pt_case.specs.Ending.{is_failure}
use Rattle.pt_case.specs.Step.{Answer}
use Rattle.pt_case.specs.declared.ending.Ending.{Ending}
use Rattle.pt_case.specs.declared.record.Record.{Record}
use Rattle.pt_found.specs.declared.survey.Fault.{Fault}
use Rattle.pt_all.specs.declared.firsts.First.{First}
use Rattle.pt_all.specs.declared.tally.Tally.{Tally}
use Rattle.pt_all.specs.Window.{passes, settled}
use Rattle.pt_all.specs.Origins.{same_ending, times_of}
use Rattle.pt_all.specs.Survey.{IsReduced}

-- those of other origins
abbrev pub others : Ending → List First → List First
others ending firsts = filter (λ first. not (same_ending ending first.rec.ending)) firsts

-- the first failures of their origins, where the first record is that of the run of this number
abbrev pub firsts_from : ℕ → List Record → List First
firsts_from run [] = []
firsts_from run (rec ∷ records) =
    if is_failure rec.ending then record { run = run; times = times_of rec.ending (rec ∷ records); rec = rec } ∷ others rec.ending (firsts_from (run + 1) records)
    else firsts_from (run + 1) records

-- one more failure: its origin came once more, or it is the first of a new one
abbrev pub with_failure : ℕ → Record → List First → List First
with_failure run rec [] = record { run = run; times = 1; rec = rec } ∷ []
with_failure run rec (first ∷ firsts) =
    if same_ending first.rec.ending rec.ending then record first { times = first.times + 1 } ∷ firsts else first ∷ with_failure run rec firsts

-- the tally counts these runs
pub record IsCount (records : List Record) (tally : Tally) : Type 0 where
  pub all : tally.seen ≡ length records
  pub passing : tally.valid ≡ passes records
  pub settling : tally.settled ≡ settled records
  pub failing : tally.firsts.items ≡ firsts_from 0 records

-- the fault is that of this first failure, reduced within this budget
pub record Reduces (step : List Choice → Answer → Type 0) (budget : ℕ) (first : First) (fault : Fault) : Type 0 where
  pub run : fault.run ≡ first.run
  pub times : fault.times ≡ first.times
  pub allowed : fault.budget ≡ budget
  pub reduced : IsReduced step first.rec fault
