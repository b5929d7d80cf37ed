-- What the checks of the tests do.
use Rattle.std.specs.Prelude.{ℕ, zero, suc, ℤ, pos, Bool, true, false, int_lt, List, [], if◌then◌else◌}
use Rattle.pt_choice.specs.declared.choice.Choice.{Choice}
use Rattle.pt_val.specs.declared.val.Val.TheVariants as val
use Rattle.pt_case.specs.declared.ending.Ending.{Ending}
use Rattle.pt_case.specs.declared.ending.Ending.TheVariants.{Pass, Fail}
use Rattle.pt_case.specs.declared.ending.Origin.TheVariants.{Point}
use Rattle.pt_case.specs.declared.note.Note.{Note}
use Rattle.pt_case.specs.Step.{Answer, End}
use Rattle.pt_plan.specs.Asked.{asked_flag, asked_integer}
use Rattle.pt_plan.specs.Plan.{Plan, Gives, Rejects, Faults, Enters, Leaves, Notes, and_then, within}

-- one boolean, and then it passes
abbrev pub never_plan : Plan Ending
never_plan = and_then (asked_flag 8) (λ flag. Gives Pass)

-- it fails at once
abbrev pub always_answer : List Choice → Answer
always_answer choices = End (Fail (Point 1)) [] []

-- three choices, each in one span more
abbrev pub nested_plan : Plan Ending
nested_plan = Enters 1 (and_then (asked_flag 8) (λ first. Enters 2 (and_then (asked_integer (pos 0) (pos 9)) (λ second.
    Enters 3 (and_then (asked_flag 8) (λ third. Leaves (Leaves (Leaves (Gives Pass)))))))))

-- so many spans one after another, each left at once, and then it passes
abbrev pub crowded_plan : ℕ → Plan Ending
crowded_plan zero = Gives Pass
crowded_plan (suc count) = Enters 1 (Leaves (crowded_plan count))

-- a truth value that is noted under this name
abbrev noted : List ℕ → Bool → Note
noted name truth = record { name = name; val = val.Bool truth }

-- one boolean between two notes, and then it passes
abbrev pub noted_plan : List ℕ → Plan Ending
noted_plan name = Notes (noted name true) (and_then (asked_flag 8) (λ flag. Notes (noted name false) (Gives Pass)))

-- a number up to 4 passes, and a greater one fails at point 1
abbrev pub judged : ℤ → Plan Ending
judged number = if int_lt (pos 4) number then Faults (Point 1) else Gives Pass

-- a digit is asked for and judged
abbrev pub small_plan : Plan Ending
small_plan = and_then (asked_integer (pos 0) (pos 9)) judged

-- a digit in a span of its own
abbrev pub digit_plan : Plan ℤ
digit_plan = within 2 (asked_integer (pos 0) (pos 9))

-- a pair that does not rise is rejected, and one that rises to 9 fails at point 2
abbrev pub weighed : ℤ → ℤ → Plan Ending
weighed first second = if int_lt first second then (if int_lt (pos 8) second then Faults (Point 2) else Gives Pass) else Rejects

-- after both digits their span is left, whether they rise is noted under this name, and they are weighed
abbrev pub after_second : List ℕ → ℤ → ℤ → Plan Ending
after_second name first second = Leaves (Notes (noted name (int_lt first second)) (weighed first second))

-- after the first digit another is drawn
abbrev pub after_first : List ℕ → ℤ → Plan Ending
after_first name first = and_then digit_plan (after_second name first)

-- two digits are drawn in one span
abbrev pub rising_plan : List ℕ → Plan Ending
rising_plan name = Enters 1 (and_then digit_plan (after_first name))
