-- What a call answers that makes a value.
use Rattle.std.specs.Prelude.{◌≡◌, Result, Ok, Err}
use Rattle.pt_case.specs.declared.ending.Origin.{Origin}
use Rattle.pt_eval.specs.declared.stop.EvalStop.{EvalStop}
use Rattle.pt_eval.specs.declared.stop.EvalStop.TheVariants.{Fault, NoMemory}

-- the call answers this value or this fault, or that memory ran out
abbrev pub Evaluates : {A : Type 0} → Result A Origin → Result A EvalStop → Type 0
Evaluates given (Ok value) = given ≡ Ok value
Evaluates given (Err (Fault origin)) = given ≡ Err origin
Evaluates given (Err NoMemory) = Unit {0}
