-- How the steps of a machine follow one another.
use Rattle.std.proofs.Common.{◌≡◌, ℕ, suc, ◌+◌, ◌-◌, ◌<◌, ◌≤◌, inl, inr, ℤ, pos, Bool, true, false, Option, Some, None, Result, Ok, Err, List, [], ◌∷◌, length, refl, ◌∙◌, ap, arith}
use Rattle.std.specs.Prelude.{OnOk, slice_get}
use Rattle.pt_val.specs.declared.val.Val.{Val}
use Rattle.pt_case.specs.declared.ending.Ending.{Ending}
use Rattle.pt_case.specs.declared.ending.Ending.TheVariants.{Pass}
use Rattle.pt_case.specs.State.{State, after_leave}
use Rattle.pt_plan.specs.declared.stop.DrawStop.{DrawStop}
use Rattle.pt_plan.specs.Asked.{asked_flag, asked_integer}
use Rattle.pt_plan.specs.Halt.{case_halt}
use Rattle.pt_plan.specs.Open.{open_spans}
use Rattle.pt_plan.specs.Stop.{draw_halt}
use Rattle.pt_plan.specs.Plan.{Plan, Gives, Enters, Leaves, and_then, within}
use Rattle.pt_plan.specs.Every.{IsBalanced}
use Rattle.pt_plan.specs.Came.{Drew}
use Rattle.pt_plan.proofs.DrewLemmas.{Leads, leads-new, leads-is, leads-call, leads-entered, leads-left, drew-call, drew-ended, drew-rest}
use Rattle.pt_plan.proofs.EveryLemmas.{balanced-returns, returns-open}
use Rattle.pt_rules.specs.Meaning.{Meaning}
use Rattle.pt_rules.specs.Machine.{enabled_rules, chosen_plan, count_of, chosen_step, step_if, turn_plan, or_passed, steps_plan}
use Rattle.pt_rules.specs.Stepped.{with_state, moved, going}

-- while turns are left, a step is next
pub next-turn : {plan : Plan Ending} {old now : State} (rules : List Meaning) (state : Val) (turns turn : ℕ) → turn < turns →
    Leads plan old (steps_plan rules (turns - turn) state) now →
    Leads plan old (and_then (turn_plan (enabled_rules rules state) state) (or_passed (λ next. steps_plan rules (turns - (turn + 1)) next))) now
next-turn rules state turns turn left way =
    let one : turns - turn ≡ suc (turns - (turn + 1)) = omega (arith, left) in leads-is way (ap (λ count. steps_plan rules count state) one)

-- a question that was answered leaves the case going
pub asked-going : {lo hi : ℤ} {old new : State} {number : ℤ} → Drew case_halt (asked_integer lo hi) old new (Ok number) → new.refused ≡ None
asked-going drew = elim drew.came [
  | inl h ↦ ap (λ s. s.refused) h.3.1 ∙ ap (λ s. s.refused) h.2.kept ∙ h.2.going
  | inr h ↦ let e = h.0 in cc
]

-- a step's outcome, where the state that it left is known
pub step-moved : {whole : Plan (Option Val)} {old now new : State} (plan : Plan Val) (state : Val) (result : Result (Unit {0}) DrawStop) →
    Leads whole old (and_then plan (λ next. Gives (Some next))) now → Drew draw_halt plan now new (with_state state result) →
    Drew draw_halt whole old new (moved state result)
step-moved plan state (Ok done) way drew = drew-ended (leads-call drew (λ next. Gives (Some next)) way)
step-moved plan state (Err why) way drew = drew-call drew (λ next. Gives (Some next)) way

-- and it has left its own spans
pub step-closed : {now new : State} (plan : Plan Val) (state : Val) (before : List ℕ) (result : Result (Unit {0}) DrawStop) → IsBalanced plan →
    open_spans now ≡ before → Drew draw_halt plan now new (with_state state result) → OnOk result (open_spans new ≡ before)
step-closed {now = now} {new = new} plan state before (Ok done) balanced same drew =
    returns-open now new (balanced-returns plan now new state balanced drew.came) ∙ same
step-closed plan state before (Err why) balanced same drew = tt

-- where no rule is enabled, and where one is
pub turn-none : (enabled : List Meaning) (state : Val) → length enabled ≡ 0 → turn_plan enabled state ≡ Gives None
turn-none [] state none = refl
turn-none (first ∷ others) state none = absurd (omega (arith, none))

pub turn-some : (enabled : List Meaning) (state : Val) → 1 ≤ length enabled → turn_plan enabled state ≡ within 14 (and_then (asked_flag 14) (step_if enabled state))
turn-some [] state some = absurd (omega (arith, some))
turn-some (first ∷ others) state some = refl

module _ (enabled : List Meaning) (state : Val) (some : 1 ≤ length enabled) {old mid : State}
    (entered : Drew {A = Unit {0}} case_halt (Enters 14 (Gives tt)) old mid (Ok tt)) where
  -- in the span of a step, before the question
  pub turn-asked : Leads (turn_plan enabled state) old (and_then (asked_flag 14) (λ more. and_then (step_if enabled state more) (λ went. Leaves (Gives went)))) mid
  turn-asked = leads-entered entered (leads-is (leads-new (turn_plan enabled state) old) (turn-some enabled state some))

  module _ {after : State} (more : Bool) (drew : Drew case_halt (asked_flag 14) mid after (Ok more)) where
    -- and after it
    pub turn-if : Leads (turn_plan enabled state) old (and_then (step_if enabled state more) (λ went. Leaves (Gives went))) after
    turn-if = leads-call drew (λ more. and_then (step_if enabled state more) (λ went. Leaves (Gives went))) turn-asked

    pub turn-failed : {new : State} {why : DrawStop} → Drew draw_halt (step_if enabled state more) after new (Err why) →
        Drew draw_halt (turn_plan enabled state) old new (Err why)
    turn-failed failed = drew-call failed (λ went. Leaves (Gives went)) turn-if

    pub turn-ended : {late new : State} (next : Val) (went : Bool) → Drew draw_halt (step_if enabled state more) after late (going next (Ok went)) →
        new ≡ after_leave late → Drew draw_halt (turn_plan enabled state) old new (going next (Ok went))
    turn-ended next true drawn left = drew-ended (leads-left left (leads-call drawn (λ went. Leaves (Gives went)) turn-if))
    turn-ended next false drawn left = drew-ended (leads-left left (leads-call drawn (λ went. Leaves (Gives went)) turn-if))

-- what follows a step that was made, and a run without one
pub turn-on : {plan : Plan Ending} {old now new : State} (rules : List Meaning) (turns : ℕ) (state next : Val) →
    Leads plan old (and_then (turn_plan (enabled_rules rules state) state) (or_passed (λ next. steps_plan rules turns next))) now →
    Drew draw_halt (turn_plan (enabled_rules rules state) state) now new (Ok (Some next)) → Leads plan old (steps_plan rules turns next) new
turn-on rules turns state next way drew = leads-call drew (or_passed (λ next. steps_plan rules turns next)) way

pub turn-off : {plan : Plan Ending} {old now new : State} (rules : List Meaning) (turns : ℕ) (state : Val) →
    Leads plan old (and_then (turn_plan (enabled_rules rules state) state) (or_passed (λ next. steps_plan rules turns next))) now →
    Drew draw_halt (turn_plan (enabled_rules rules state) state) now new (Ok None) → Drew draw_halt plan old new (Ok Pass)
turn-off rules turns state way drew = drew-ended (leads-call drew (or_passed (λ next. steps_plan rules turns next)) way)

-- the rule that was chosen is there, and makes the step
pub chosen-by : {old mid new : State} (enabled : List Meaning) (state : Val) {last number : ℤ} (rule : Meaning) {result : Result (Option Val) DrawStop} →
    last ≡ pos (length enabled - 1) → Drew case_halt (asked_integer (pos 0) last) old mid (Ok number) → slice_get enabled (count_of number) ≡ Some rule →
    Drew draw_halt (chosen_plan state (Some rule)) mid new result → Drew draw_halt (chosen_step enabled state) old new result
chosen-by enabled state {number = number} rule is_last drew at step =
    drew-rest step (leads-is (leads-call (rw is_last at drew) (λ number. chosen_plan state (slice_get enabled (count_of number))) (leads-new (chosen_step enabled state) _))
    (ap (λ found. chosen_plan state found) at))
