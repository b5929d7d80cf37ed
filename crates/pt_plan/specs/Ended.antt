-- How a run ends that was led by a plan.
use Rattle.std.specs.Prelude.{◌≡◌, false, Option, Some, None, Result, Ok, Err}
use Rattle.pt_choice.specs.declared.memory.NoMemory.{NoMemory}
use Rattle.pt_case.specs.declared.ending.Ending.{Ending}
use Rattle.pt_case.specs.declared.ending.Ending.TheVariants.{Reject, Overrun, Fail}
use Rattle.pt_case.specs.Ending.{is_overrun}
use Rattle.pt_plan.specs.Halt.{Halt, Rejection, Fault, Refusal}

-- the ending of a run that came to no value for this reason, or ran out of memory
abbrev pub halted : Option Halt → Result Ending NoMemory
halted (Some Rejection) = Ok Reject
halted (Some (Fault origin)) = Ok (Fail origin)
halted (Some Refusal) = Ok Overrun
halted None = Err (record {})

-- the ending of a run that came to this, where errors mean this
abbrev pub ended : {E : Type 0} → (E → Option Halt) → Result Ending E → Result Ending NoMemory
ended halt (Ok ending) = Ok ending
ended halt (Err why) = halted (halt why)

-- it does not say by itself that it overran
abbrev pub Settles : {E : Type 0} → Result Ending E → Type 0
Settles (Ok ending) = is_overrun ending ≡ false
Settles (Err why) = Unit {0}
