-- A run of a check before its end.
use Rattle.std.specs.Prelude.{◌≡◌, Result, Ok, Err, None, List}
use Rattle.pt_choice.specs.declared.choice.Choice.{Choice}
use Rattle.pt_choice.specs.declared.kind.Shape.{Shape}
use Rattle.pt_choice.specs.declared.memory.NoMemory.{NoMemory}
use Rattle.pt_case.specs.declared.ending.Ending.{Ending}
use Rattle.pt_case.specs.declared.ending.Ending.TheVariants.{Overrun}
use Rattle.pt_case.specs.declared.stop.Stop.{Stop}
use Rattle.pt_case.specs.declared.stop.Stop.TheVariants as stop
use Rattle.pt_case.specs.Source.{AnswersAll}
use Rattle.pt_case.specs.Step.{Answer, IsAsked}
use Rattle.pt_case.specs.State.{State}

-- From the one state, of a new case, to the other the check asked its questions and had them answered, and nothing was refused.
pub record IsUnderWay (step : List Choice → Answer → Type 0) (old now : State) : Type 0 where
  pub kinds : List Shape
  pub asked : IsAsked step now.choices kinds
  pub answered : AnswersAll old.left kinds now.choices now.left
  pub going : now.refused ≡ None

-- how a run ended that may have stopped with the case
abbrev pub ending_of : Result Ending Stop → Result Ending NoMemory
ending_of (Ok ending) = Ok ending
ending_of (Err stop.Overrun) = Ok Overrun
ending_of (Err stop.NoMemory) = Err (record {})
