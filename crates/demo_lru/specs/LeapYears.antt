-- The check `leap_years`, of a function with a fault.
use Rattle.std.specs.Prelude.{ℕ, ℤ, pos, int_rem, Bool, not, ◌&&◌, ◌||◌, List, codes, if◌then◌else◌}
use Rattle.std.proofs.Math.Bool.{beq}
use Rattle.std.specs.Ordering.{int_eq}
use Rattle.pt_choice.specs.declared.choice.Choice.{Choice}
use Rattle.pt_val.specs.declared.val.Val.{Val}
use Rattle.pt_case.specs.declared.ending.Ending.{Ending}
use Rattle.pt_case.specs.declared.ending.Ending.TheVariants.{Pass, Fail}
use Rattle.pt_case.specs.declared.ending.Origin.TheVariants.{Point}
use Rattle.pt_case.specs.Step.{Answer}
use Rattle.pt_plan.specs.Says.{plan_says}
use Rattle.pt_typed.specs.Plans.{ints_plan}
use Rattle.pt_typed.specs.Property.{property_plan}
use Rattle.pt_typed.specs.Reading.{number_of}

abbrev pub divides : ℕ → ℤ → Bool
divides by year = int_eq (int_rem year (pos by)) (pos 0)

-- what the function under test answers
abbrev pub is_by_four : ℤ → Bool
is_by_four year = divides 4 year

-- the rule of the calendar
abbrev pub is_leap : ℤ → Bool
is_leap year = divides 4 year && (not (divides 100 year) || divides 400 year)

-- it fails at point 1 where they differ
abbrev pub keeps_the_calendar : Val → Ending
keeps_the_calendar year = if beq (is_by_four (number_of year)) (is_leap (number_of year)) then Pass else Fail (Point 1)

abbrev pub leap_name : List ℕ
leap_name = codes "leap_years"

-- a year from 1 to 3,000
abbrev pub leap_says : List Choice → Answer → Type 0
leap_says = plan_says (property_plan (ints_plan (pos 1) (pos 3000)) keeps_the_calendar)
