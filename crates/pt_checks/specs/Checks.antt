-- What the example checks mean.
use Rattle.std.specs.Prelude.{◌≡◌, ℕ, pos, int_lt, List, [], codes, if◌then◌else◌}
use Rattle.pt_choice.specs.declared.choice.Choice.{Choice}
use Rattle.pt_val.specs.declared.val.Val.{Val}
use Rattle.pt_case.specs.declared.ending.Ending.{Ending}
use Rattle.pt_case.specs.declared.ending.Ending.TheVariants.{Pass, Fail}
use Rattle.pt_case.specs.declared.ending.Origin.TheVariants.{Point}
use Rattle.pt_case.specs.Step.{Answer, End}
use Rattle.pt_plan.specs.Asked.{asked_flag}
use Rattle.pt_plan.specs.Plan.{Plan, Gives, and_then}
use Rattle.pt_plan.specs.Says.{plan_says}
use Rattle.pt_typed.specs.Plans.{ints_plan, pair_plan}
use Rattle.pt_typed.specs.Property.{property_plan}
use Rattle.pt_typed.specs.Reading.{number_of, first_of, second_of}

abbrev pub never_name : List ℕ
never_name = codes "never"

abbrev pub always_name : List ℕ
always_name = codes "always"

-- one fair boolean, and then it passes
abbrev pub never_plan : Plan Ending
never_plan = and_then (asked_flag 8) (λ flag. Gives Pass)

abbrev pub never_says : List Choice → Answer → Type 0
never_says = plan_says never_plan

-- it fails at once
abbrev pub always_says : List Choice → Answer → Type 0
always_says choices said = said ≡ End (Fail (Point 1)) [] []

abbrev pub sorted_pair_name : List ℕ
sorted_pair_name = codes "sorted_pair"

-- a pair of integers fails at point 1 where the first exceeds the second
abbrev pub in_order : Val → Ending
in_order pair = if int_lt (number_of (second_of pair)) (number_of (first_of pair)) then Fail (Point 1) else Pass

-- two integers from 0 to 1,000 are in order
abbrev pub sorted_pair_says : List Choice → Answer → Type 0
sorted_pair_says = plan_says (property_plan (pair_plan (ints_plan (pos 0) (pos 1000)) (ints_plan (pos 0) (pos 1000))) in_order)
