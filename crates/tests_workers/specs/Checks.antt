-- What the checks of the tests do.
use Rattle.std.specs.Prelude.{ℤ, pos, int_lt, List, [], if◌then◌else◌}
use Rattle.pt_choice.specs.declared.choice.Choice.{Choice}
use Rattle.pt_case.specs.declared.ending.Ending.{Ending}
use Rattle.pt_case.specs.declared.ending.Ending.TheVariants.{Pass, Fail}
use Rattle.pt_case.specs.declared.ending.Origin.TheVariants.{Point}
use Rattle.pt_case.specs.Step.{Answer, End}
use Rattle.pt_plan.specs.Asked.{asked_integer}
use Rattle.pt_plan.specs.Plan.{Plan, Gives, Faults, and_then}

-- it fails at once
abbrev pub always_answer : List Choice → Answer
always_answer choices = End (Fail (Point 1)) [] []

-- a number below the bound passes, and any other fails at point 1
abbrev pub compared : ℤ → ℤ → Plan Ending
compared bound number = if int_lt number bound then Gives Pass else Faults (Point 1)

-- a number from 0 to 1,000 is asked for and compared with the bound
abbrev pub bounded_plan : ℤ → Plan Ending
bounded_plan bound = and_then (asked_integer (pos 0) (pos 1000)) (compared bound)
