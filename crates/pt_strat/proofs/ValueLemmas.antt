-- How a draw goes on by what was evaluated.
use Rattle.std.proofs.Common.{Result, Ok, Err, refl, ap}
use Rattle.pt_case.specs.declared.ending.Origin.{Origin}
use Rattle.pt_case.specs.State.{State}
use Rattle.pt_plan.specs.declared.stop.DrawStop.{DrawStop}
use Rattle.pt_plan.specs.declared.stop.DrawStop.TheVariants as stop
use Rattle.pt_plan.specs.Plan.{Plan, Gives}
use Rattle.pt_plan.specs.Came.{Drew}
use Rattle.pt_plan.specs.Stop.{draw_halt}
use Rattle.pt_plan.proofs.DrewLemmas.{Leads, leads-new, leads-is, drew-ended, drew-faulted, drew-nothing, drew-rest}
use Rattle.pt_strat.specs.Valued.{Answers, Valued}
use Rattle.pt_strat.specs.Parts.{by_value}

-- after a value
pub leads-value : {A B : Type 0} {plan : Plan B} {old now : State} {value : A} (found : Result A Origin) →
    Valued found (Ok value) → (next : A → Plan B) → Leads plan old (by_value found next) now → Leads plan old (next value) now
leads-value found is next way = leads-is way (ap (λ g. by_value g next) is.answers)

-- where there is none
pub drew-value : {A B : Type 0} {plan : Plan B} {old now : State} {why : DrawStop} (found : Result A Origin) →
    Valued {A = A} found (Err why) → (next : A → Plan B) → Leads plan old (by_value found next) now → Drew draw_halt plan old now (Err why)
drew-value {A = A} {plan = plan} {old = old} {now = now} {why = why} found is next way = at why is.answers
  where
    at : (why : DrawStop) → Answers {A = A} found (Err why) → Drew draw_halt plan old now (Err why)
    at stop.Reject never = absurd never
    at stop.Overrun never = absurd never
    at (stop.Fault origin) faults = drew-faulted refl (leads-is way (ap (λ g. by_value g next) faults))
    at stop.NoMemory nothing = drew-nothing refl

-- a plan that begins with it
pub valued-rest : {A B : Type 0} {old new : State} {value : A} {result : Result B DrawStop} (found : Result A Origin) (next : A → Plan B) →
    Valued found (Ok value) → Drew draw_halt (next value) old new result → Drew draw_halt (by_value found next) old new result
valued-rest {old = old} found next is drew = drew-rest drew (leads-value found is next (leads-new (by_value found next) old))

pub valued-failed : {A B : Type 0} {old : State} {why : DrawStop} (found : Result A Origin) (next : A → Plan B) →
    Valued {A = A} found (Err why) → Drew draw_halt (by_value found next) old old (Err why)
valued-failed {old = old} found next is = drew-value found is next (leads-new (by_value found next) old)

-- a value that is given as it is
pub valued-given : {A : Type 0} {old : State} (found : Result A Origin) (result : Result A DrawStop) → Valued found result →
    Drew draw_halt (by_value found (λ made. Gives made)) old old result
valued-given {old = old} found (Ok value) is = drew-ended (leads-value found is (λ made. Gives made) (leads-new (by_value found (λ made. Gives made)) old))
valued-given {old = old} found (Err why) is = valued-failed found (λ made. Gives made) is
