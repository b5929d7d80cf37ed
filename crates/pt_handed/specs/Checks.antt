-- What it is to be a check.
use Rattle.std.specs.Prelude.{◌≡◌, ◌↔◌, ℕ, List}
use Rattle.pt_choice.specs.declared.choice.Choice.{Choice}
use Rattle.pt_case.specs.Step.{Answer}

-- a check of this name, which answers to each list as this one does
pub record IsCheck (name : List ℕ) (step : List Choice → Answer → Type 0) (named : List ℕ) (says : List Choice → Answer → Type 0) : Type 0 where
  pub same_name : name ≡ named
  pub answers : (choices : List Choice) (said : Answer) → step choices said ↔ says choices said
