-- What a machine of rules does.
use Rattle.std.specs.Prelude.{ℕ, zero, suc, ◌-◌, ℤ, pos, negsuc, Bool, true, false, Option, Some, None, List, [], ◌∷◌, length, filter, slice_get, codes}
use Rattle.pt_val.specs.declared.val.Val.{Val}
use Rattle.pt_val.specs.declared.val.Val.TheVariants as val
use Rattle.pt_case.specs.declared.ending.Ending.{Ending}
use Rattle.pt_case.specs.declared.ending.Ending.TheVariants.{Pass}
use Rattle.pt_case.specs.declared.note.Note.{Note}
use Rattle.pt_plan.specs.Asked.{asked_flag, asked_integer}
use Rattle.pt_plan.specs.Plan.{Plan, Gives, Notes, and_then, within}
use Rattle.pt_rules.specs.Meaning.{Meaning}

-- the rules that are enabled, in their order
abbrev pub enabled_rules : List Meaning → Val → List Meaning
enabled_rules rules state = filter (λ rule. rule.enabled state) rules

abbrev pub step_word : List ℕ
step_word = codes "step"

-- a rule's name as it is shown before its step
abbrev pub step_note : List ℕ → Note
step_note name = record { name = step_word; val = val.Text name }

-- The rule is shown, and makes its step. There is one wherever this is asked.
abbrev pub chosen_plan : Val → Option Meaning → Plan (Option Val)
chosen_plan state None = Gives None
chosen_plan state (Some rule) = Notes (step_note rule.name) (and_then (rule.step state) (λ next. Gives (Some next)))

-- the number of an integer that is not negative
abbrev pub count_of : ℤ → ℕ
count_of (pos count) = count
count_of (negsuc less) = 0

-- one of these rules is chosen by its number
abbrev pub chosen_step : List Meaning → Val → Plan (Option Val)
chosen_step enabled state =
    and_then (asked_integer (pos 0) (pos (length enabled - 1))) (λ number. chosen_plan state (slice_get enabled (count_of number)))

-- a step where the answer is yes
abbrev pub step_if : List Meaning → Val → Bool → Plan (Option Val)
step_if enabled state true = chosen_step enabled state
step_if enabled state false = Gives None

-- One more step of one of the rules that are enabled, if there is one, in a span of its own. There is none where no rule is.
abbrev pub turn_plan : List Meaning → Val → Plan (Option Val)
turn_plan [] state = Gives None
turn_plan (first ∷ others) state = within 14 (and_then (asked_flag 14) (step_if (first ∷ others) state))

-- what follows a step; without one the run passes
abbrev pub or_passed : (Val → Plan Ending) → Option Val → Plan Ending
or_passed next None = Gives Pass
or_passed next (Some state) = next state

-- at most so many steps from a state
abbrev pub steps_plan : List Meaning → ℕ → Val → Plan Ending
steps_plan rules zero state = Gives Pass
steps_plan rules (suc steps) state =
    and_then (turn_plan (enabled_rules rules state) state) (or_passed (λ next. steps_plan rules steps next))
