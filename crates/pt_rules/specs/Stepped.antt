-- What came of a step, by the state and the ending that it left.
use Rattle.std.specs.Prelude.{Bool, true, false, Option, Some, None, Result, Ok, Err}
use Rattle.pt_choice.specs.declared.memory.NoMemory.{NoMemory}
use Rattle.pt_val.specs.declared.val.Val.{Val}
use Rattle.pt_case.specs.declared.ending.Ending.{Ending}
use Rattle.pt_case.specs.declared.ending.Ending.TheVariants.{Pass, Reject, Overrun, Fail}
use Rattle.pt_plan.specs.declared.stop.DrawStop.{DrawStop}
use Rattle.pt_plan.specs.declared.stop.DrawStop.TheVariants as draw

-- the state where it passed, and else why there is none
abbrev pub stepped : Val → Result Ending NoMemory → Result Val DrawStop
stepped state (Ok Pass) = Ok state
stepped state (Ok Reject) = Err draw.Reject
stepped state (Ok Overrun) = Err draw.Overrun
stepped state (Ok (Fail origin)) = Err (draw.Fault origin)
stepped state (Err none) = Err draw.NoMemory

-- the state, where a call that leaves it went well
abbrev pub with_state : Val → Result (Unit {0}) DrawStop → Result Val DrawStop
with_state state (Ok done) = Ok state
with_state state (Err why) = Err why

-- the state after a step, where a call that makes one went well
abbrev pub moved : Val → Result (Unit {0}) DrawStop → Result (Option Val) DrawStop
moved state (Ok done) = Ok (Some state)
moved state (Err why) = Err why

-- and where it says whether it made one
abbrev pub going : Val → Result Bool DrawStop → Result (Option Val) DrawStop
going state (Ok true) = Ok (Some state)
going state (Ok false) = Ok None
going state (Err why) = Err why
