-- How the draws of parts follow one another.
use Rattle.std.proofs.Common.{◌≡◌, ℕ, Option, Result, Ok, Err}
use Rattle.pt_case.specs.declared.stop.Stop.{Stop}
use Rattle.pt_case.specs.State.{State, after_leave}
use Rattle.pt_plan.specs.declared.stop.DrawStop.{DrawStop}
use Rattle.pt_plan.specs.Halt.{Halt, case_halt}
use Rattle.pt_plan.specs.Stop.{draw_halt, draw_stop_of}
use Rattle.pt_plan.specs.Plan.{Plan, Gives, Enters, Leaves, and_then, within}
use Rattle.pt_plan.specs.Came.{Drew}
use Rattle.pt_plan.proofs.DrewLemmas.{leads-new, leads-call, leads-entered, leads-left, drew-call, drew-stopped, drew-entered, drew-ended, drew-rest}

-- one part and then another, where the first gave no value
pub first-failed : {A B : Type 0} (part : Plan A) (next : A → Plan B) {old new : State} {why : DrawStop} →
    Drew draw_halt part old new (Err why) → Drew draw_halt (and_then part next) old new (Err why)
first-failed part next {old = old} drew = drew-call drew next (leads-new (and_then part next) old)

-- as it is answered by a case
pub first-stopped : {A B : Type 0} (part : Plan A) (next : A → Plan B) {old new : State} {why : Stop} →
    Drew case_halt part old new (Err why) → Drew draw_halt (and_then part next) old new (Err (draw_stop_of why))
first-stopped part next {old = old} drew = drew-stopped drew next (leads-new (and_then part next) old)

-- and where it did
pub then-rest : {A B E : Type 0} {halt : E → Option Halt} (part : Plan A) (next : A → Plan B) {old mid new : State} {value : A} {result : Result B DrawStop} →
    Drew halt part old mid (Ok value) → Drew draw_halt (next value) mid new result → Drew draw_halt (and_then part next) old new result
then-rest part next {old = old} first later = drew-rest later (leads-call first next (leads-new (and_then part next) old))

pub then-gives : {A B E : Type 0} {halt : E → Option Halt} (part : Plan A) (made : A → B) {old new : State} {value : A} →
    Drew halt part old new (Ok value) → Drew draw_halt (and_then part (λ value. Gives (made value))) old new (Ok (made value))
then-gives part made {old = old} first = drew-ended (leads-call first (λ value. Gives (made value)) (leads-new (and_then part (λ value. Gives (made value))) old))

-- where a span is refused
pub span-unentered : {A : Type 0} {label : ℕ} (part : Plan A) {old new : State} {why : Stop} →
    Drew {A = Unit {0}} case_halt (Enters label (Gives tt)) old new (Err why) → Drew draw_halt (within label part) old new (Err (draw_stop_of why))
span-unentered {label = label} part {old = old} refused = drew-entered refused (leads-new (within label part) old)

-- in a span of its own, where all that is drawn in it is one part
pub inside-failed : {A : Type 0} {label : ℕ} (part : Plan A) {old mid new : State} {why : DrawStop} →
    Drew {A = Unit {0}} case_halt (Enters label (Gives tt)) old mid (Ok tt) → Drew draw_halt part mid new (Err why) →
    Drew draw_halt (within label part) old new (Err why)
inside-failed {label = label} part {old = old} entered drew =
    drew-call drew (λ value. Leaves (Gives value)) (leads-entered entered (leads-new (within label part) old))

pub inside-drawn : {A : Type 0} {label : ℕ} (part : Plan A) {old mid late new : State} {value : A} →
    Drew {A = Unit {0}} case_halt (Enters label (Gives tt)) old mid (Ok tt) → Drew draw_halt part mid late (Ok value) → new ≡ after_leave late →
    Drew draw_halt (within label part) old new (Ok value)
inside-drawn {label = label} part {old = old} entered drew left =
    drew-ended (leads-left left (leads-call drew (λ value. Leaves (Gives value)) (leads-entered entered (leads-new (within label part) old))))
