-- What is left of a filter's tries.
use Rattle.std.proofs.Common.{◌≡◌, ℕ, suc, Bool, true, false, Ok, Err, ap}
use Rattle.std.specs.Prelude.{if◌then◌else◌}
use Rattle.pt_val.specs.declared.val.Val.{Val}
use Rattle.pt_case.specs.declared.stop.Stop.{Stop}
use Rattle.pt_case.specs.State.{State, after_leave}
use Rattle.pt_plan.specs.Halt.{case_halt}
use Rattle.pt_plan.specs.Plan.{Plan, Gives, Enters, Leaves, and_then}
use Rattle.pt_plan.specs.Came.{Drew}
use Rattle.pt_plan.proofs.DrewLemmas.{Leads, leads-new, leads-is, leads-call, leads-entered, leads-left, leads-true, leads-false}
use Rattle.pt_typed.specs.Fail.{fail_halt, fail_of}
use Rattle.pt_typed.specs.Plans.{tries_plan}
use Rattle.pt_typed.proofs.DrawLemmas.{draw-stopped}

-- where the span of a try is refused
pub try-refused : (inner : Plan Val) (wanted : Val → Bool) (tries more : ℕ) {old new : State} {why : Stop} → tries ≡ suc more →
    Drew {A = Unit {0}} case_halt (Enters 13 (Gives tt)) old new (Err why) → Drew fail_halt (tries_plan inner wanted tries) old new (Err (fail_of why))
try-refused inner wanted tries more {old = old} one refused =
    draw-stopped refused (λ (u : Unit {0}). and_then inner (λ value. Leaves (if wanted value then Gives value else tries_plan inner wanted more)))
    (leads-is (leads-new (tries_plan inner wanted tries) old) (ap (λ count. tries_plan inner wanted count) one))

module _ (inner : Plan Val) (wanted : Val → Bool) (tries more : ℕ) (one : tries ≡ suc more) {old mid : State}
    (entered : Drew {A = Unit {0}} case_halt (Enters 13 (Gives tt)) old mid (Ok tt)) where
  -- in the span of a try, before its value
  pub try-value : Leads (tries_plan inner wanted tries) old
      (and_then inner (λ value. Leaves (if wanted value then Gives value else tries_plan inner wanted more))) mid
  try-value = leads-entered entered (leads-is (leads-new (tries_plan inner wanted tries) old) (ap (λ count. tries_plan inner wanted count) one))

  module _ {after left : State} (value : Val) (drew : Drew fail_halt inner mid after (Ok value)) (is_left : left ≡ after_leave after) where
    tested : Leads (tries_plan inner wanted tries) old (if wanted value then Gives value else tries_plan inner wanted more) left
    tested = leads-left is_left (leads-call drew (λ value. Leaves (if wanted value then Gives value else tries_plan inner wanted more)) try-value)

    -- and after it, where it is wanted and where it is not
    pub try-passed : wanted value ≡ true → Leads (tries_plan inner wanted tries) old (Gives value) left
    try-passed is = leads-true (Gives value) (tries_plan inner wanted more) is tested

    pub try-failed : wanted value ≡ false → Leads (tries_plan inner wanted tries) old (tries_plan inner wanted more) left
    try-failed is = leads-false (Gives value) (tries_plan inner wanted more) is tested
