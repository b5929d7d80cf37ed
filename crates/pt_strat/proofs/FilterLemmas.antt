-- How a filter is drawn, try by try.
use Rattle.std.proofs.Common.{◌≡◌, ℕ, suc, Option, Some, None, Result, Ok, Err, refl, ap}
use Rattle.std.specs.Prelude.{if◌then◌else◌}
use Rattle.pt_val.specs.declared.val.Val.{Val}
use Rattle.pt_case.specs.declared.ending.Origin.{Origin}
use Rattle.pt_case.specs.State.{State, after_leave}
use Rattle.pt_eval.specs.Parts.{truth_of}
use Rattle.pt_plan.specs.declared.stop.DrawStop.{DrawStop}
use Rattle.pt_plan.specs.declared.stop.DrawStop.TheVariants as stop
use Rattle.pt_plan.specs.Halt.{case_halt}
use Rattle.pt_plan.specs.Stop.{draw_halt}
use Rattle.pt_plan.specs.Plan.{Plan, Gives, Enters, and_then}
use Rattle.pt_plan.specs.Came.{Drew}
use Rattle.pt_plan.proofs.DrewLemmas.{Leads, leads-new, leads-is, leads-call, drew-call, drew-ended, drew-rejected}
use Rattle.pt_strat.specs.Valued.{Valued}
use Rattle.pt_strat.specs.Parts.{by_value, try_plan, or_again, tries_plan}
use Rattle.pt_strat.proofs.ValueLemmas.{valued-rest, valued-failed}
use Rattle.pt_strat.proofs.DrawLemmas.{first-failed, then-rest, inside-failed, inside-drawn}

-- what follows a value of a try
abbrev tested : (Val → Result Val Origin) → Val → Plan (Option Val)
tested condition value = by_value (condition value) (λ truth. Gives (if truth_of truth then Some value else None))

-- a try in its part
module _ (label : ℕ) (inner : Plan Val) (condition : Val → Result Val Origin) {old mid : State}
    (entered : Drew {A = Unit {0}} case_halt (Enters label (Gives tt)) old mid (Ok tt)) where
  pub try-failed : {new : State} {why : DrawStop} → Drew draw_halt inner mid new (Err why) → Drew draw_halt (try_plan label inner condition) old new (Err why)
  try-failed drew = inside-failed (and_then inner (tested condition)) entered (first-failed inner (tested condition) drew)

  module _ {after : State} {value : Val} (drew : Drew draw_halt inner mid after (Ok value)) where
    pub try-unheld : {why : DrawStop} → Valued {A = Val} (condition value) (Err why) → Drew draw_halt (try_plan label inner condition) old after (Err why)
    try-unheld is = inside-failed (and_then inner (tested condition)) entered (then-rest inner (tested condition) drew
        (valued-failed (condition value) (λ truth. Gives (if truth_of truth then Some value else None)) is))

    pub try-held : {new : State} {truth : Val} {found : Option Val} → Valued (condition value) (Ok truth) → new ≡ after_leave after →
        found ≡ (if truth_of truth then Some value else None) → Drew draw_halt (try_plan label inner condition) old new (Ok found)
    try-held {truth = truth} is left same = rw same (inside-drawn (and_then inner (tested condition)) entered (then-rest inner (tested condition) drew
        (valued-rest (condition value) (λ truth. Gives (if truth_of truth then Some value else None)) is
        (drew-ended (leads-new (Gives (if truth_of truth then Some value else None)) after)))) left)

-- where no try is left
pub tries-none : {whole : Plan Val} {old now : State} (attempt : Plan (Option Val)) (tries : ℕ) → tries ≡ 0 → Leads whole old (tries_plan attempt tries) now →
    Drew draw_halt whole old now (Err stop.Reject)
tries-none attempt tries none way = drew-rejected refl (leads-is way (ap (λ count. tries_plan attempt count) none))

-- where one is
module _ {whole : Plan Val} {old now : State} (attempt : Plan (Option Val)) (tries more : ℕ) (one : tries ≡ suc more)
    (way : Leads whole old (tries_plan attempt tries) now) where
  at-try : Leads whole old (and_then attempt (or_again (tries_plan attempt more))) now
  at-try = leads-is way (ap (λ count. tries_plan attempt count) one)

  -- and it gave no value, one that is kept, and one that is not
  pub tries-failed : {new : State} {why : DrawStop} → Drew draw_halt attempt now new (Err why) → Drew draw_halt whole old new (Err why)
  tries-failed drew = drew-call drew (or_again (tries_plan attempt more)) at-try

  pub tries-passed : {new : State} {value : Val} → Drew draw_halt attempt now new (Ok (Some value)) → Drew draw_halt whole old new (Ok value)
  tries-passed drew = drew-ended (leads-call drew (or_again (tries_plan attempt more)) at-try)

  pub tries-missed : {new : State} → Drew draw_halt attempt now new (Ok None) → Leads whole old (tries_plan attempt more) new
  tries-missed drew = leads-call drew (or_again (tries_plan attempt more)) at-try
