-- What the check `counter` does: a count is raised by digits and set back to 0, and is never to exceed 20.
use Rattle.std.specs.Prelude.{◌≡◌, ℕ, ℤ, pos, ◌+ℤ◌, ◌&&◌, int_lt, int_le, Bool, false, List, [], ◌∷◌, codes, if◌then◌else◌}
use Rattle.pt_val.specs.declared.val.Val.{Val}
use Rattle.pt_val.specs.declared.val.Val.TheVariants as val
use Rattle.pt_case.specs.declared.ending.Origin.TheVariants.{Point}
use Rattle.pt_case.specs.declared.note.Note.{Note}
use Rattle.pt_plan.specs.Plan.{Plan, Gives, Faults, Notes, and_then}
use Rattle.pt_typed.specs.Plans.{ints_plan}
use Rattle.pt_typed.specs.Reading.{number_of}
use Rattle.pt_rules.specs.Meaning.{Meaning}

abbrev pub counter_name : List ℕ
counter_name = codes "counter"

abbrev pub add_name : List ℕ
add_name = codes "add"

abbrev pub reset_name : List ℕ
reset_name = codes "reset"

abbrev pub n_word : List ℕ
n_word = codes "n"

-- the state is a count from this number to 20
abbrev pub is_from : ℤ → Val → Bool
is_from least (val.Int count) = int_le least count && int_le count (pos 20)
is_from least other = false

-- a digit as it is shown
abbrev pub digit_note : Val → Note
digit_note digit = record { name = n_word; val = digit }

-- a sum that exceeds 20 fails at point 2
abbrev pub sum_plan : ℤ → Plan Val
sum_plan sum = if int_lt (pos 20) sum then Faults (Point 2) else Gives (val.Int sum)

-- a digit is drawn, shown and added
abbrev pub digit_plan : ℤ → Plan Val
digit_plan count = and_then (ints_plan (pos 0) (pos 9)) (λ digit. Notes (digit_note digit) (sum_plan (count +ℤ number_of digit)))

-- a step of `add`, and of `reset`; each leaves a state alone that it may not be stepped from

abbrev pub add_plan : Val → Plan Val
add_plan state = if is_from (pos 0) state then digit_plan (number_of state) else Gives state

abbrev pub reset_plan : Val → Plan Val
reset_plan state = if is_from (pos 1) state then Gives (val.Int (pos 0)) else Gives state

abbrev pub add_meaning : Meaning
add_meaning = record { name = add_name; enabled = is_from (pos 0); step = add_plan }

abbrev pub reset_meaning : Meaning
reset_meaning = record { name = reset_name; enabled = is_from (pos 1); step = reset_plan }

-- a machine of these two rules that makes at most 20 steps from 0
pub record IsCounter (name : List ℕ) (rules : List Meaning) (steps : ℕ) (start : Val) : Type 0 where
  pub named : name ≡ counter_name
  pub ruled : rules ≡ add_meaning ∷ reset_meaning ∷ []
  pub stepped : steps ≡ 20
  pub started : start ≡ val.Int (pos 0)
