-- How the checks of the tests judge what they drew.
use Rattle.std.specs.Prelude.{ℕ, ◌%◌, ◌==◌, Bool, ℤ, pos, unsigned_abs, int_lt, List, [], if◌then◌else◌}
use Rattle.pt_choice.specs.declared.choice.Choice.{Choice}
use Rattle.pt_case.specs.Step.{Answer, End}
use Rattle.pt_case.specs.declared.ending.Ending.{Ending}
use Rattle.pt_case.specs.declared.ending.Ending.TheVariants.{Pass, Reject, Fail}
use Rattle.pt_case.specs.declared.ending.Origin.TheVariants.{Point}
use Rattle.tests_all.specs.declared.rule.Rule.{Rule}
use Rattle.tests_all.specs.declared.rule.Rule.TheVariants.{Passes, Rejects, Apart, Mixed, Hidden}

-- it fails at once
abbrev pub always_answer : List Choice → Answer
always_answer choices = End (Fail (Point 1)) [] []

-- of four numbers one passes, one is rejected, and two fail, each at a point of its own
abbrev pub mixed_of : ℕ → Ending
mixed_of number = if number == 0 then Pass else if number == 1 then Reject else Fail (Point number)

-- a number from 10 on fails, and one from 500 on elsewhere
abbrev pub hidden_of : ℤ → Ending
hidden_of number = if int_lt number (pos 10) then Pass else if int_lt number (pos 500) then Fail (Point 1) else Fail (Point 2)

-- what a rule says of a number
abbrev pub verdict_of : Rule → ℤ → Ending
verdict_of Passes number = Pass
verdict_of Rejects number = Reject
verdict_of Apart number = Fail (Point (unsigned_abs number % 100))
verdict_of Mixed number = mixed_of (unsigned_abs number % 4)
verdict_of Hidden number = hidden_of number

-- false fails at point 1, and true at point 2
abbrev pub side_of : Bool → Ending
side_of value = if value then Fail (Point 2) else Fail (Point 1)
