-- Why a draw gives no value.
use Rattle.std.specs.Prelude.{Option, Some, None}
use Rattle.pt_case.specs.declared.stop.Stop.{Stop}
use Rattle.pt_case.specs.declared.stop.Stop.TheVariants as case
use Rattle.pt_plan.specs.declared.stop.DrawStop.{DrawStop}
use Rattle.pt_plan.specs.declared.stop.DrawStop.TheVariants as draw
use Rattle.pt_plan.specs.Halt.{Halt, Rejection, Fault, Refusal}

-- why, where a draw gave this answer; nothing is said where memory ran out
abbrev pub draw_halt : DrawStop → Option Halt
draw_halt draw.Reject = Some Rejection
draw_halt (draw.Fault origin) = Some (Fault origin)
draw_halt draw.Overrun = Some Refusal
draw_halt draw.NoMemory = None

-- a draw's answer where the case gave this one
abbrev pub draw_stop_of : Stop → DrawStop
draw_stop_of case.Overrun = draw.Overrun
draw_stop_of case.NoMemory = draw.NoMemory
