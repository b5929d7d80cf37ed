-- What a case does that is led by a plan, and what a call answers that leads it.
use Rattle.std.specs.Prelude.{◌≡◌, ◌⊎◌, Option, Result, Ok, Err, IfSome}
use Rattle.pt_choice.specs.declared.choice.Choice.{Choice}
use Rattle.pt_case.specs.declared.refused.Refused.TheVariants.{Question, Entry}
use Rattle.pt_case.specs.State.{State, IsOver, IsFilled, Answered, Entered, after_leave, after_note, stopped_at}
use Rattle.pt_plan.specs.Halt.{Halt, Rejection, Fault, Refusal}
use Rattle.pt_plan.specs.Plan.{Plan, Gives, Rejects, Faults, Asks, Enters, Leaves, Notes}

-- Led by the plan, the case came from the one state to the other, and this came of it: a value, or why there is none. What the
-- case refuses ends it.
abbrev pub Came : {A : Type 0} → Plan A → State → State → Result A Halt → Type 0
Came (Gives value) old new outcome = (outcome ≡ Ok value) × (new ≡ old)
Came Rejects old new outcome = (outcome ≡ Err Rejection) × (new ≡ old)
Came (Faults origin) old new outcome = (outcome ≡ Err (Fault origin)) × (new ≡ old)
Came (Asks kind next) old new outcome =
    ((choice : Choice) × (mid : State) × Answered old kind choice mid × Came (next choice) mid new outcome)
    ⊎ ((outcome ≡ Err Refusal) × IsOver old × (new ≡ stopped_at old (Question kind)))
Came (Enters label next) old new outcome =
    ((mid : State) × Entered old label mid × Came next mid new outcome)
    ⊎ ((outcome ≡ Err Refusal) × IsFilled old × (new ≡ stopped_at old Entry))
Came (Leaves next) old new outcome = Came next (after_leave old) new outcome
Came (Notes note next) old new outcome = Came next (after_note old note) new outcome

-- what came of the plan is what a call answers, whose errors mean this; one that means nothing says nothing
abbrev pub CameTo : {A E : Type 0} → (E → Option Halt) → Plan A → State → State → Result A E → Type 0
CameTo halt plan old new (Ok value) = Came plan old new (Ok value)
CameTo halt plan old new (Err why) = IfSome (halt why) (λ means. Came plan old new (Err means))

-- led by the plan, the case came from the one state to the other, where a call answers this
pub record Drew {A E : Type 0} (halt : E → Option Halt) (plan : Plan A) (old new : State) (result : Result A E) : Type 0 where
  pub came : CameTo halt plan old new result
