-- What the checks of the tests do.
use Rattle.std.specs.Prelude.{ℕ, zero, suc, ◌+◌, Bool, not, ◌&&◌, ℤ, pos, unsigned_abs, int_lt, ◌+ℤ◌, List, [], if◌then◌else◌}
use Rattle.std.specs.Ordering.{int_eq}
use Rattle.pt_choice.specs.declared.choice.Choice.{Choice}
use Rattle.pt_case.specs.declared.ending.Ending.{Ending}
use Rattle.pt_case.specs.declared.ending.Ending.TheVariants.{Pass, Fail}
use Rattle.pt_case.specs.declared.ending.Origin.TheVariants.{Point}
use Rattle.pt_case.specs.Step.{Answer, End}
use Rattle.pt_plan.specs.Asked.{asked_flag, asked_integer}
use Rattle.pt_plan.specs.Plan.{Plan, Gives, Faults, and_then, within}
use Rattle.tests_engine.specs.declared.two.Judge.{Judge}
use Rattle.tests_engine.specs.declared.two.Judge.TheVariants.{Equal, Different, Ten}

-- it fails at point 1 where this holds, and passes where it does not
abbrev pub fails_if : Bool → Plan Ending
fails_if fails = if fails then Faults (Point 1) else Gives Pass

-- a number below the bound passes, and any other fails at point 1
abbrev pub compared : ℤ → ℤ → Plan Ending
compared bound number = if int_lt number bound then Gives Pass else Faults (Point 1)

-- a number from 0 to 1,000 is asked for and compared with the bound
abbrev pub bounded_plan : ℤ → Plan Ending
bounded_plan bound = and_then (asked_integer (pos 0) (pos 1000)) (compared bound)

-- a number in a span of its own
abbrev pub number_plan : ℤ → Plan ℤ
number_plan most = within 2 (asked_integer (pos 0) most)

-- whether two numbers fail
abbrev pub is_bad : Judge → ℤ → ℤ → Bool
is_bad Equal first second = int_eq first second && int_lt (pos 0) first
is_bad Different first second = not (int_eq first second)
is_bad Ten first second = int_eq (first +ℤ second) (pos 10)

-- two numbers are judged
abbrev pub judged : Judge → ℤ → ℤ → Plan Ending
judged judge first second = fails_if (is_bad judge first second)

-- a second number is drawn, and both are judged
abbrev pub second_plan : ℤ → Judge → ℤ → Plan Ending
second_plan most judge first = and_then (number_plan most) (judged judge first)

-- a first number is drawn, and a second one
abbrev pub two_plan : ℤ → Judge → Plan Ending
two_plan most judge = and_then (number_plan most) (second_plan most judge)

-- so many more digits, of which the last one fails where it is 7
abbrev pub digits_plan : ℕ → ℤ → Plan Ending
digits_plan zero last = fails_if (int_eq last (pos 7))
digits_plan (suc left) last = and_then (number_plan (pos 9)) (digits_plan left)

-- one digit, and so many more
abbrev pub counted_plan : ℤ → Plan Ending
counted_plan more = digits_plan (unsigned_abs more + 1) (pos 0)

-- one to five digits, whose number is drawn first
abbrev pub tail_plan : Plan Ending
tail_plan = and_then (asked_integer (pos 0) (pos 4)) counted_plan

-- a flag is asked for, and it passes
abbrev pub never_plan : Plan Ending
never_plan = and_then (asked_flag 8) (λ flag. Gives Pass)

-- it fails at once
abbrev pub always_answer : List Choice → Answer
always_answer choices = End (Fail (Point 1)) [] []
