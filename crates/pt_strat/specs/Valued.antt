-- What a call answers that draws by the value of an expression.
use Rattle.std.specs.Prelude.{◌≡◌, Result, Ok, Err}
use Rattle.pt_case.specs.declared.ending.Origin.{Origin}
use Rattle.pt_plan.specs.declared.stop.DrawStop.{DrawStop}
use Rattle.pt_plan.specs.declared.stop.DrawStop.TheVariants.{Reject, Overrun, Fault, NoMemory}

-- the call answers this value or this fault, or that memory ran out
abbrev pub Answers : {A : Type 0} → Result A Origin → Result A DrawStop → Type 0
Answers given (Ok value) = given ≡ Ok value
Answers given (Err Reject) = ⊥
Answers given (Err Overrun) = ⊥
Answers given (Err (Fault origin)) = given ≡ Err origin
Answers given (Err NoMemory) = Unit {0}

pub record Valued {A : Type 0} (given : Result A Origin) (result : Result A DrawStop) : Type 0 where
  pub answers : Answers given result
