-- A check that goes by a plan.
use Rattle.std.proofs.Common.{◌≡◌, ℕ, false, Option, Some, None, Result, Ok, Err, List, [], length, inl, inr, refl, sym, ◌∙◌, ap, subst}
use Rattle.std.specs.Prelude.{IfOk, IfSome}
use Rattle.pt_choice.specs.declared.choice.Choice.{Choice}
use Rattle.pt_case.specs.declared.ending.Ending.{Ending}
use Rattle.pt_case.specs.declared.ending.Ending.TheVariants.{Reject, Overrun, Fail}
use Rattle.pt_case.specs.Ending.{is_overrun}
use Rattle.pt_case.specs.Region.{spans_at}
use Rattle.pt_case.specs.State.{State, IsNew, after_leave, after_note}
use Rattle.pt_case.specs.Step.{Answer, Cut, Says}
use Rattle.pt_case.specs.UnderWay.{IsUnderWay}
use Rattle.pt_case.specs.Run.{Ran}
use Rattle.pt_case.proofs.UnderWayLemmas.{under_way-new, under_way-drawn, under_way-kept, ran-ended, ran-refused, ran-cut}
use Rattle.pt_plan.specs.Halt.{Halt, Rejection, Fault, Refusal}
use Rattle.pt_plan.specs.Plan.{Plan, Gives, Rejects, Faults, Asks, Enters, Leaves, Notes}
use Rattle.pt_plan.specs.Came.{Came, CameTo, Drew}
use Rattle.pt_plan.specs.Mark.{Mark, mark_from, cut_from}
use Rattle.pt_plan.specs.Ended.{ended, halted, Settles}
use Rattle.pt_plan.specs.Says.{answer_at, plan_says}
use Rattle.pt_plan.proofs.StandsLemmas.{GoesOn, goes_on-new, goes_on-asked, goes_on-entered, goes_on-left, goes_on-noted, marked-here, cut-here, cut-full}

-- a plan's answer is one
pub says-plan : (plan : Plan Ending) (choices : List Choice) (answer : Answer) → plan_says plan choices answer → Says (plan_says plan) choices answer
says-plan plan choices answer said = record { said = said; only = λ other also. let e = sym also ∙ said in cc }

-- the answer where this stands, and nothing is cut
says-mark : (whole rest : Plan Ending) (now : State) (mark : Mark Ending) → GoesOn whole rest now →
    mark_from rest (length now.choices) now.regions now.notes [] ≡ Some mark → cut_from 1024 rest (length now.choices) now.regions now.notes [] ≡ None →
    Says (plan_says whole) now.choices (answer_at mark)
says-mark whole rest now mark on is uncut =
    says-plan whole now.choices (answer_at mark) (rw (cut-here whole rest now None on uncut, marked-here whole rest now mark on is) refl)

-- and where it is cut
says-cut : (whole : Plan Ending) (label : ℕ) (next : Plan Ending) (now : State) → GoesOn whole (Enters label next) now → length now.regions ≡ 1024 →
    Says (plan_says whole) now.choices (Cut (spans_at (length now.choices) now.regions) now.notes)
says-cut whole label next now on many =
    says-plan whole now.choices _ (rw (cut-here whole (Enters label next) now _ on (cut-full label next now many)) refl)

-- no plan's value is an overrun
abbrev pub SettlesAt : Result Ending Halt → Type 0
SettlesAt (Ok ending) = is_overrun ending ≡ false
SettlesAt (Err why) = Unit {0}

-- how a run ends of which this came
abbrev pub ending_at : Result Ending Halt → Ending
ending_at (Ok ending) = ending
ending_at (Err Rejection) = Reject
ending_at (Err (Fault origin)) = Fail origin
ending_at (Err Refusal) = Overrun

-- from where the run has come to, the rest of the plan leads it to its end
ran-from : (whole rest : Plan Ending) (start now new : State) (outcome : Result Ending Halt) →
    IsUnderWay (plan_says whole) start now → GoesOn whole rest now → SettlesAt outcome → Came rest now new outcome →
    Ran (plan_says whole) start new (ending_at outcome)
ran-from whole (Gives ending) start now new outcome way on settles came =
    let settled : is_overrun ending ≡ false = subst SettlesAt came.0 settles in
    rw (came.0, came.1) (ran-ended _ start now ending way (says-mark whole (Gives ending) now _ on refl refl) settled)
ran-from whole Rejects start now new outcome way on settles came =
    rw (came.0, came.1) (ran-ended _ start now Reject way (says-mark whole Rejects now _ on refl refl) refl)
ran-from whole (Faults origin) start now new outcome way on settles came =
    rw (came.0, came.1) (ran-ended _ start now (Fail origin) way (says-mark whole (Faults origin) now _ on refl refl) refl)
ran-from whole (Asks kind next) start now new outcome way on settles came = elim came [
  | inl h ↦
      let asks = says-mark whole (Asks kind next) now _ on refl refl in
      ran-from whole (next h.0) start h.1 new outcome (under_way-drawn _ start now kind h.0 h.1 way (_, _, asks) h.2)
      (goes_on-asked whole kind next now h.1 h.0 on h.2) settles h.3
  | inr h ↦ rw h.0 (ran-refused _ start now kind new way (says-mark whole (Asks kind next) now _ on refl refl) h.1 h.2)
]
ran-from whole (Enters label next) start now new outcome way on settles came = elim came [
  | inl h ↦
      let e = h.1.kept in
      ran-from whole next start h.0 new outcome
      (under_way-kept _ start now h.0 way (ap (λ s. s.left) e) (ap (λ s. s.choices) e) (ap (λ s. s.refused) e))
      (goes_on-entered whole label next now h.0 on h.1) settles h.2
  | inr h ↦
      let many : length now.regions ≡ 1024 = elim h.1 [ inl g ↦ let stuck = rw on.going at g in cc | inr g ↦ g ] in
      rw h.0 (ran-cut _ start now new way (says-cut whole label next now on many) h.1 h.2)
]
ran-from whole (Leaves next) start now new outcome way on settles came =
    ran-from whole next start (after_leave now) new outcome (under_way-kept _ start now (after_leave now) way refl refl refl)
    (goes_on-left whole next now on) settles came
ran-from whole (Notes note next) start now new outcome way on settles came =
    ran-from whole next start (after_note now note) new outcome (under_way-kept _ start now (after_note now note) way refl refl refl)
    (goes_on-noted whole note next now on) settles came

-- a run over a new case that the whole plan led
ran-led : (whole : Plan Ending) (old new : State) (outcome : Result Ending Halt) → IsNew old → SettlesAt outcome → Came whole old new outcome →
    Ran (plan_says whole) old new (ending_at outcome)
ran-led whole old new outcome is settles came = ran-from whole whole old old new outcome (under_way-new _ old is) (goes_on-new whole old is) settles came

-- Whatever a plan leads is a run of a check with that plan's answers.
pub drew-ran : {E : Type 0} {halt : E → Option Halt} (whole : Plan Ending) {old new : State} {result : Result Ending E} → IsNew old → Settles result →
    Drew halt whole old new result → IfOk (ended halt result) (λ ending. Ran (plan_says whole) old new ending)
drew-ran {E = E} {halt = halt} whole {old = old} {new = new} {result = result} is settles drew = at result settles drew.came
  where
    means : (why : Option Halt) → IfSome why (λ (reason : Halt). Came whole old new (Err reason)) → IfOk (halted why) (λ ending. Ran (plan_says whole) old new ending)
    means None came = tt
    means (Some Rejection) came = ran-led whole old new (Err Rejection) is tt came
    means (Some (Fault origin)) came = ran-led whole old new (Err (Fault origin)) is tt came
    means (Some Refusal) came = ran-led whole old new (Err Refusal) is tt came

    at : (result : Result Ending E) → Settles result → CameTo halt whole old new result → IfOk (ended halt result) (λ ending. Ran (plan_says whole) old new ending)
    at (Ok ending) settles came = ran-led whole old new (Ok ending) is settles came
    at (Err why) settles came = means (halt why) came
