-- What comes of the plan of an integer.
use Rattle.std.proofs.Common.{◌≡◌, ℤ, ◌+ℤ◌, ◌-ℤ◌, Ok, Err}
use Rattle.pt_val.specs.declared.val.Val.TheVariants as val
use Rattle.pt_case.specs.declared.stop.Stop.{Stop}
use Rattle.pt_case.specs.State.{State, after_leave}
use Rattle.pt_plan.specs.Asked.{asked_integer}
use Rattle.pt_plan.specs.Halt.{case_halt}
use Rattle.pt_plan.specs.Plan.{Gives, Enters}
use Rattle.pt_plan.specs.Came.{Drew}
use Rattle.pt_plan.proofs.DrewLemmas.{leads-left, drew-ended}
use Rattle.pt_typed.specs.Fail.{fail_halt, fail_of}
use Rattle.pt_typed.specs.Plans.{nearest, ints_plan}
use Rattle.pt_typed.proofs.DrawLemmas.{span-refused, span-second}

module _ (lo hi : ℤ) {old mid new : State} {least most : ℤ} (entered : Drew {A = Unit {0}} case_halt (Enters 1 (Gives tt)) old mid (Ok tt)) where
  -- where the case gave no choice
  pub ints-refused : {why : Stop} → Drew case_halt (asked_integer least most) mid new (Err why) → least ≡ lo -ℤ nearest lo hi → most ≡ hi -ℤ nearest lo hi →
      Drew fail_halt (ints_plan lo hi) old new (Err (fail_of why))
  ints-refused drew is_least is_most =
      span-refused (asked_integer (lo -ℤ nearest lo hi) (hi -ℤ nearest lo hi)) (λ distance. Gives (val.Int (nearest lo hi +ℤ distance))) entered
      (rw (is_least, is_most) at drew)

  -- and where it did
  pub ints-drawn : {late : State} {distance number : ℤ} → Drew case_halt (asked_integer least most) mid late (Ok distance) → least ≡ lo -ℤ nearest lo hi →
      most ≡ hi -ℤ nearest lo hi → new ≡ after_leave late → number ≡ nearest lo hi +ℤ distance → Drew fail_halt (ints_plan lo hi) old new (Ok (val.Int number))
  ints-drawn drew is_least is_most left is = rw is (drew-ended (leads-left left
      (span-second (asked_integer (lo -ℤ nearest lo hi) (hi -ℤ nearest lo hi)) (λ distance. Gives (val.Int (nearest lo hi +ℤ distance))) entered
      (rw (is_least, is_most) at drew))))
