-- Which lists are better examples of a failure.
use Rattle.std.specs.Prelude.{◌≡◌, ◌⊎◌, true, List}
use Rattle.pt_choice.specs.Order.{IsShorter}
use Rattle.pt_choice.specs.declared.choice.Choice.{Choice}
use Rattle.pt_case.specs.Ending.{is_failure}
use Rattle.pt_case.specs.Step.{Answer}
use Rattle.pt_case.specs.Run.{IsRecord}
use Rattle.pt_case.specs.declared.record.Record.{Record}

-- the list's record fails as this failing record does, and its choices come before that record's
pub record IsBetter (step : List Choice → Answer → Type 0) (list : List Choice) (best : Record) : Type 0 where
  pub rec : Record
  pub is : IsRecord step list rec
  pub fails : is_failure best.ending ≡ true
  pub alike : rec.ending ≡ best.ending
  pub shorter : IsShorter rec.choices best.choices

-- the one record ends as the other does, and its choices are the same or come before
pub record IsAsGood (one other : Record) : Type 0 where
  pub alike : one.ending ≡ other.ending
  pub below : (one.choices ≡ other.choices) ⊎ IsShorter one.choices other.choices
