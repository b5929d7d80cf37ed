-- What the rules of the machine `counter` do.
use Rattle.std.proofs.Common.{◌≡◌, ℤ, pos, ◌+ℤ◌, Bool, true, false, refl, sym, ap}
use Rattle.std.specs.Prelude.{int_lt, if◌then◌else◌}
use Rattle.pt_val.specs.declared.val.Val.{Val}
use Rattle.pt_val.specs.declared.val.Val.TheVariants as val
use Rattle.pt_case.specs.declared.ending.Origin.TheVariants.{Point}
use Rattle.pt_plan.specs.Plan.{Gives, Faults, Notes}
use Rattle.pt_plan.specs.Every.{IsBalanced}
use Rattle.pt_plan.proofs.EveryLemmas.{balanced-and_then}
use Rattle.pt_typed.specs.Plans.{ints_plan}
use Rattle.pt_typed.specs.Reading.{number_of}
use Rattle.pt_typed.specs.Laws.{ints-lawful}
use Rattle.pt_checks.specs.Counter.{is_from, digit_note, sum_plan, digit_plan, add_plan, reset_plan}

-- a step from a count, and from another state
pub add-from : (state : Val) → is_from (pos 0) state ≡ true → digit_plan (number_of state) ≡ add_plan state
add-from state is = ap (λ test. if test then digit_plan (number_of state) else Gives state) (sym is)

pub add-stays : (state : Val) → is_from (pos 0) state ≡ false → Gives state ≡ add_plan state
add-stays state is = ap (λ test. if test then digit_plan (number_of state) else Gives state) (sym is)

sum-balanced : (exceeds : Bool) (sum : ℤ) → IsBalanced {A = Val} (if exceeds then Faults (Point 2) else Gives (val.Int sum))
sum-balanced true sum = tt
sum-balanced false sum = refl

pub add-balanced : (state : Val) → IsBalanced (add_plan state)
add-balanced state = at (is_from (pos 0) state) where
  at : (test : Bool) → IsBalanced (if test then digit_plan (number_of state) else Gives state)
  at true = balanced-and_then (ints_plan (pos 0) (pos 9)) (λ digit. Notes (digit_note digit) (sum_plan (number_of state +ℤ number_of digit)))
      (ints-lawful (pos 0) (pos 9)).balanced (λ digit. sum-balanced (int_lt (pos 20) (number_of state +ℤ number_of digit)) (number_of state +ℤ number_of digit))
  at false = refl

pub reset-balanced : (state : Val) → IsBalanced (reset_plan state)
reset-balanced state = at (is_from (pos 1) state) where
  at : (test : Bool) → IsBalanced (if test then Gives (val.Int (pos 0)) else Gives state)
  at true = refl
  at false = refl
