-- How the draws of strategies follow one another, beside what pt_plan has for every plan.
use Rattle.std.proofs.Common.{◌≡◌, ◌≢◌, ℕ, true, Some, None, Option, Result, Ok, Err, inl, inr, refl}
use Rattle.std.specs.Prelude.{is_some, IfOk, OnOk}
use Rattle.std.specs.Option.{option_or}
use Rattle.pt_case.specs.declared.refused.Refused.{Refused}
use Rattle.pt_val.specs.declared.val.Val.{Val}
use Rattle.pt_case.specs.declared.stop.Stop.{Stop}
use Rattle.pt_case.specs.declared.stop.Stop.TheVariants as case
use Rattle.pt_case.specs.State.{State, after_leave}
use Rattle.pt_plan.specs.Halt.{Halt, Rejection, Refusal, case_halt}
use Rattle.pt_plan.specs.Kept.{KeepsSpans, is_refusal}
use Rattle.pt_plan.proofs.KeptLemmas.{came-stopped}
use Rattle.pt_plan.specs.Stop.{draw_halt}
use Rattle.pt_plan.specs.Open.{open_spans}
use Rattle.pt_plan.specs.Plan.{Plan, Gives, Rejects, Faults, Asks, Enters, Leaves, Notes, and_then, within}
use Rattle.pt_plan.specs.Came.{Came, Drew}
use Rattle.pt_plan.proofs.CameLemmas.{and_then-and_then}
use Rattle.pt_plan.proofs.DrewLemmas.{Leads, leads-new, leads-is, leads-call, leads-entered, leads-left, drew-from, drew-call, drew-ended}
use Rattle.pt_plan.proofs.EveryLemmas.{gives-came, balanced-keeps, balanced-returns, returns-open, silent-came}
use Rattle.pt_typed.specs.declared.fail.DrawFail.{DrawFail}
use Rattle.pt_typed.specs.declared.fail.DrawFail.TheVariants as fail
use Rattle.pt_typed.specs.Fail.{fail_halt, fail_of, stop_of, is_overrun_of}
use Rattle.pt_typed.specs.Shown.{shown_by}
use Rattle.pt_typed.specs.Strategy.{BeginsByAsking, IsStrategy}

-- what a case answers means as much as what a strategy makes of it
pub fail-means : (why : Stop) → fail_halt (fail_of why) ≡ case_halt why
fail-means case.Overrun = refl
fail-means case.NoMemory = refl

-- and as much as what a draw makes of that
pub stop-means : (why : DrawFail) → draw_halt (stop_of why) ≡ fail_halt why
stop-means fail.Reject = refl
stop-means fail.Overrun = refl
stop-means fail.NoMemory = refl

-- at a call that gives a case's own errors, in a strategy
pub draw-stopped : {A B : Type 0} {part : Plan A} {plan : Plan B} {old now after : State} {why : Stop} →
    Drew case_halt part now after (Err why) → (next : A → Plan B) → Leads plan old (and_then part next) now →
    Drew fail_halt plan old after (Err (fail_of why))
draw-stopped {why = why} drew next way = drew-from (fail-means why) drew next way

-- what was refused first is still refused
still-refused : (first : Option Refused) (refused : Refused) → is_some (option_or first (Some refused)) ≡ true
still-refused (Some one) refused = refl
still-refused None refused = refl

-- a plan that begins by asking is refused exactly where the case is stopped, also where it was before
begun-stopped : {A : Type 0} (plan : Plan A) (old new : State) (outcome : Result A Halt) → BeginsByAsking plan → Came plan old new outcome →
    is_some new.refused ≡ is_refusal outcome
begun-stopped (Asks kind next) old new outcome begins came = elim came [
  | inl h ↦ came-stopped (Asks kind next) old new outcome h.2.going (inl h)
  | inr h ↦ rw (h.0, h.2) (still-refused old.refused _)
]
begun-stopped (Enters label next) old new outcome begins came = elim came [
  | inl h ↦ came-stopped (Enters label next) old new outcome h.1.going (inl h)
  | inr h ↦ rw (h.0, h.2) (still-refused old.refused _)
]
begun-stopped (Gives value) old new outcome begins came = absurd begins
begun-stopped Rejects old new outcome begins came = absurd begins
begun-stopped (Faults origin) old new outcome begins came = absurd begins
begun-stopped (Leaves next) old new outcome begins came = absurd begins
begun-stopped (Notes note next) old new outcome begins came = absurd begins

-- what a strategy drew is of its set
pub drawn-inside : {V E : Type 0} {halt : E → Option Halt} (shown : V → Val) (In : Val → Type 0) (plan : Plan Val) (old new : State) (result : Result V E) →
    IsStrategy In plan → Drew halt plan old new (shown_by shown result) → IfOk result (λ value. In (shown value))
drawn-inside shown In plan old new (Ok value) lawful drew = gives-came In plan old new (shown value) lawful.within_set drew.came
drawn-inside shown In plan old new (Err why) lawful drew = tt

-- and it has left its own spans
pub drawn-closed : {V E : Type 0} {halt : E → Option Halt} (shown : V → Val) (In : Val → Type 0) (plan : Plan Val) (old new : State) (result : Result V E) →
    IsStrategy In plan → Drew halt plan old new (shown_by shown result) → OnOk result (open_spans new ≡ open_spans old)
drawn-closed shown In plan old new (Ok value) lawful drew = returns-open old new (balanced-returns plan old new (shown value) lawful.balanced drew.came)
drawn-closed shown In plan old new (Err why) lawful drew = tt

-- what is left of the spans, the notes and the case, where memory did not run out
module _ {V : Type 0} (shown : V → Val) (In : Val → Type 0) (plan : Plan Val) (old new : State) (lawful : IsStrategy In plan) where
  pub drawn-spans : (result : Result V DrawFail) → Drew fail_halt plan old new (shown_by shown result) → result ≢ Err fail.NoMemory → KeepsSpans old new
  drawn-spans (Ok value) drew some = balanced-keeps plan old new (Ok (shown value)) lawful.balanced drew.came
  drawn-spans (Err fail.Reject) drew some = balanced-keeps plan old new (Err Rejection) lawful.balanced drew.came
  drawn-spans (Err fail.Overrun) drew some = balanced-keeps plan old new (Err Refusal) lawful.balanced drew.came
  drawn-spans (Err fail.NoMemory) drew some = absurd (some refl)

  pub drawn-notes : (result : Result V DrawFail) → Drew fail_halt plan old new (shown_by shown result) → result ≢ Err fail.NoMemory → new.notes ≡ old.notes
  drawn-notes (Ok value) drew some = silent-came plan old new (Ok (shown value)) lawful.silent drew.came
  drawn-notes (Err fail.Reject) drew some = silent-came plan old new (Err Rejection) lawful.silent drew.came
  drawn-notes (Err fail.Overrun) drew some = silent-came plan old new (Err Refusal) lawful.silent drew.came
  drawn-notes (Err fail.NoMemory) drew some = absurd (some refl)

  pub drawn-stopped : (result : Result V DrawFail) → Drew fail_halt plan old new (shown_by shown result) → result ≢ Err fail.NoMemory →
      is_some new.refused ≡ is_overrun_of result
  drawn-stopped (Ok value) drew some = begun-stopped plan old new (Ok (shown value)) lawful.begins drew.came
  drawn-stopped (Err fail.Reject) drew some = begun-stopped plan old new (Err Rejection) lawful.begins drew.came
  drawn-stopped (Err fail.Overrun) drew some = begun-stopped plan old new (Err Refusal) lawful.begins drew.came
  drawn-stopped (Err fail.NoMemory) drew some = absurd (some refl)

-- into a plan that stands first in what is left
pub leads-then : {A B C : Type 0} (part : Plan A) (next : A → Plan B) (last : B → Plan C) {plan : Plan C} {old now : State} →
    Leads plan old (and_then (and_then part next) last) now → Leads plan old (and_then part (λ value. and_then (next value) last)) now
leads-then part next last way = leads-is way (and_then-and_then part next last)

-- in a span of its own, where all that is drawn in it is one part
pub inside-failed : {A E : Type 0} {halt : E → Option Halt} {label : ℕ} (part : Plan A) {old mid new : State} {why : E} →
    Drew {A = Unit {0}} case_halt (Enters label (Gives tt)) old mid (Ok tt) → Drew halt part mid new (Err why) →
    Drew halt (within label part) old new (Err why)
inside-failed {label = label} part entered drew =
    drew-call drew (λ value. Leaves (Gives value)) (leads-entered entered (leads-new (within label part) _))

pub inside-drawn : {A E : Type 0} {halt : E → Option Halt} {label : ℕ} (part : Plan A) {old mid late new : State} {value : A} →
    Drew {A = Unit {0}} case_halt (Enters label (Gives tt)) old mid (Ok tt) → Drew halt part mid late (Ok value) → new ≡ after_leave late →
    Drew halt (within label part) old new (Ok value)
inside-drawn {label = label} part entered drew left =
    drew-ended (leads-left left (leads-call drew (λ value. Leaves (Gives value)) (leads-entered entered (leads-new (within label part) _))))

-- in a span, where what is drawn in it is one part and then another
module _ {A B : Type 0} {label : ℕ} (part : Plan A) (next : A → Plan B) {old mid : State}
    (entered : Drew {A = Unit {0}} case_halt (Enters label (Gives tt)) old mid (Ok tt)) where
  -- before the first part
  pub span-first : Leads (within label (and_then part next)) old (and_then part (λ value. and_then (next value) (λ last. Leaves (Gives last)))) mid
  span-first = leads-then part next (λ last. Leaves (Gives last)) (leads-entered entered (leads-new (within label (and_then part next)) old))

  module _ {E : Type 0} {halt : E → Option Halt} {after : State} {value : A} (drew : Drew halt part mid after (Ok value)) where
    -- before the second
    pub span-second : Leads (within label (and_then part next)) old (and_then (next value) (λ last. Leaves (Gives last))) after
    span-second = leads-call drew (λ value. and_then (next value) (λ last. Leaves (Gives last))) span-first

    -- where the second gave no value
    pub span-failed : {E' : Type 0} {halt' : E' → Option Halt} {new : State} {why : E'} →
        Drew halt' (next value) after new (Err why) → Drew halt' (within label (and_then part next)) old new (Err why)
    span-failed failed = drew-call failed (λ last. Leaves (Gives last)) span-second

    -- and where it did
    pub span-drawn : {E' : Type 0} {halt' : E' → Option Halt} {late new : State} {last : B} →
        Drew halt' (next value) after late (Ok last) → new ≡ after_leave late → Drew halt' (within label (and_then part next)) old new (Ok last)
    span-drawn drawn left = drew-ended (leads-left left (leads-call drawn (λ last. Leaves (Gives last)) span-second))

  -- where the first gave no value
  pub span-stopped : {E : Type 0} {halt : E → Option Halt} {new : State} {why : E} →
      Drew halt part mid new (Err why) → Drew halt (within label (and_then part next)) old new (Err why)
  span-stopped failed = drew-call failed (λ value. and_then (next value) (λ last. Leaves (Gives last))) span-first

  -- as it is answered by a case
  pub span-refused : {new : State} {why : Stop} → Drew case_halt part mid new (Err why) → Drew fail_halt (within label (and_then part next)) old new (Err (fail_of why))
  span-refused failed = draw-stopped failed (λ value. and_then (next value) (λ last. Leaves (Gives last))) span-first
