-- Why a strategy gives no value.
use Rattle.std.specs.Prelude.{Bool, true, false, Option, Some, None, Result, Ok, Err}
use Rattle.pt_case.specs.declared.stop.Stop.{Stop}
use Rattle.pt_case.specs.declared.stop.Stop.TheVariants as case
use Rattle.pt_plan.specs.Halt.{Halt, Rejection, Refusal}
use Rattle.pt_plan.specs.declared.stop.DrawStop.{DrawStop}
use Rattle.pt_plan.specs.declared.stop.DrawStop.TheVariants as draw
use Rattle.pt_typed.specs.declared.fail.DrawFail.{DrawFail}
use Rattle.pt_typed.specs.declared.fail.DrawFail.TheVariants as fail

-- why, where a strategy gave this answer; nothing is said where memory ran out
abbrev pub fail_halt : DrawFail → Option Halt
fail_halt fail.Reject = Some Rejection
fail_halt fail.Overrun = Some Refusal
fail_halt fail.NoMemory = None

-- a strategy's answer where the case gave this one
abbrev pub fail_of : Stop → DrawFail
fail_of case.Overrun = fail.Overrun
fail_of case.NoMemory = fail.NoMemory

-- a draw's answer where a strategy gave this one
abbrev pub stop_of : DrawFail → DrawStop
stop_of fail.Reject = draw.Reject
stop_of fail.Overrun = draw.Overrun
stop_of fail.NoMemory = draw.NoMemory

-- the answer is that the case gives no more
abbrev pub is_overrun_of : {A : Type 0} → Result A DrawFail → Bool
is_overrun_of (Ok value) = false
is_overrun_of (Err fail.Reject) = false
is_overrun_of (Err fail.Overrun) = true
is_overrun_of (Err fail.NoMemory) = false
