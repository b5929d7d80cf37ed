-- A door that is opened and closed.
use Rattle.std.specs.Prelude.{Bool, true, false, not}
use Rattle.pt_val.specs.declared.val.Val.{Val}
use Rattle.pt_val.specs.declared.val.Val.TheVariants as val
use Rattle.pt_case.specs.declared.ending.Origin.TheVariants.{Point}
use Rattle.pt_plan.specs.Asked.{asked_flag}
use Rattle.pt_plan.specs.Plan.{Plan, Gives, Faults, and_then}

abbrev pub is_open : Val → Bool
is_open (val.Bool truth) = truth
is_open other = false

abbrev pub is_closed : Val → Bool
is_closed (val.Bool truth) = not truth
is_closed other = false

abbrev pub open_plan : Val → Plan Val
open_plan state = Gives (val.Bool true)

-- it fails at point 4 where the answer is yes
abbrev pub closed_or_failed : Bool → Plan Val
closed_or_failed true = Faults (Point 4)
closed_or_failed false = Gives (val.Bool false)

abbrev pub close_plan : Val → Plan Val
close_plan state = and_then (asked_flag 8) closed_or_failed
