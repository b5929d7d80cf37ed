-- How an integer is drawn.
use Rattle.std.proofs.Common.{◌≡◌, ℤ, ◌+ℤ◌, ◌-ℤ◌, Ok, Err}
use Rattle.pt_val.specs.declared.val.Val.TheVariants as val
use Rattle.pt_case.specs.declared.stop.Stop.{Stop}
use Rattle.pt_case.specs.State.{State}
use Rattle.pt_plan.specs.Asked.{asked_integer}
use Rattle.pt_plan.specs.Halt.{case_halt}
use Rattle.pt_plan.specs.Stop.{draw_halt, draw_stop_of}
use Rattle.pt_plan.specs.Plan.{Gives}
use Rattle.pt_plan.specs.Came.{Drew}
use Rattle.pt_strat.specs.declared.bounds.Range.{Range}
use Rattle.pt_strat.specs.Parts.{nearest, integer_plan}
use Rattle.pt_strat.proofs.DrawLemmas.{first-stopped, then-gives}

module _ (range : Range) {old new : State} {least most : ℤ} (is_least : least ≡ range.lo -ℤ nearest range.lo range.hi)
    (is_most : most ≡ range.hi -ℤ nearest range.lo range.hi) where
  pub integer-stopped : {why : Stop} → Drew case_halt (asked_integer least most) old new (Err why) → Drew draw_halt (integer_plan range) old new (Err (draw_stop_of why))
  integer-stopped drew = first-stopped (asked_integer (range.lo -ℤ nearest range.lo range.hi) (range.hi -ℤ nearest range.lo range.hi))
      (λ distance. Gives (val.Int (nearest range.lo range.hi +ℤ distance))) (rw (is_least, is_most) at drew)

  pub integer-drawn : {distance number : ℤ} → Drew case_halt (asked_integer least most) old new (Ok distance) → number ≡ nearest range.lo range.hi +ℤ distance →
      Drew draw_halt (integer_plan range) old new (Ok (val.Int number))
  integer-drawn drew is = rw is (then-gives (asked_integer (range.lo -ℤ nearest range.lo range.hi) (range.hi -ℤ nearest range.lo range.hi))
      (λ distance. val.Int (nearest range.lo range.hi +ℤ distance)) (rw (is_least, is_most) at drew))
