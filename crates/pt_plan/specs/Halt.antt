-- Why a plan comes to no value.
use Rattle.std.specs.Prelude.{Option, Some, None}
use Rattle.pt_case.specs.declared.ending.Origin.{Origin}
use Rattle.pt_case.specs.declared.stop.Stop.{Stop}
use Rattle.pt_case.specs.declared.stop.Stop.TheVariants as case

-- it rejects, it ends with a fault, or the case refuses what comes next
pub data Halt : Type 0 where
  Rejection : Halt
  Fault : (origin : Origin) → Halt
  Refusal : Halt

-- why, where a case gave this answer; nothing is said where memory ran out
abbrev pub case_halt : Stop → Option Halt
case_halt case.Overrun = Some Refusal
case_halt case.NoMemory = None
