-- What is left of a pair's plan on the way through it.
use Rattle.std.proofs.Common.{Ok}
use Rattle.pt_val.specs.declared.val.Val.{Val}
use Rattle.pt_case.specs.State.{State}
use Rattle.pt_plan.specs.Halt.{case_halt}
use Rattle.pt_plan.specs.Plan.{Plan, Gives, Enters, Leaves, and_then}
use Rattle.pt_plan.specs.Came.{Drew}
use Rattle.pt_plan.proofs.DrewLemmas.{Leads, leads-new, leads-call, leads-entered}
use Rattle.pt_typed.specs.Fail.{fail_halt}
use Rattle.pt_typed.specs.Shown.{pair_of}
use Rattle.pt_typed.specs.Plans.{pair_plan}
use Rattle.pt_typed.proofs.DrawLemmas.{leads-then}

module _ (first second : Plan Val) {old mid : State} (entered : Drew {A = Unit {0}} case_halt (Enters 8 (Gives tt)) old mid (Ok tt)) where
  -- in its span, before the first value
  pub pair-first : Leads (pair_plan first second) old
      (and_then first (λ one. and_then (and_then second (λ other. Gives (pair_of one other))) (λ value. Leaves (Gives value)))) mid
  pair-first = leads-then first (λ one. and_then second (λ other. Gives (pair_of one other))) (λ value. Leaves (Gives value))
      (leads-entered entered (leads-new (pair_plan first second) old))

  -- and before the second
  pub pair-second : {after : State} (one : Val) → Drew fail_halt first mid after (Ok one) →
      Leads (pair_plan first second) old (and_then second (λ other. Leaves (Gives (pair_of one other)))) after
  pair-second one drew = leads-then second (λ other. Gives (pair_of one other)) (λ value. Leaves (Gives value))
      (leads-call drew (λ one. and_then (and_then second (λ other. Gives (pair_of one other))) (λ value. Leaves (Gives value))) pair-first)
