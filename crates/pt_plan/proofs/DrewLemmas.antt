-- How calls that are led by plans follow one another: one lemma a call.
use Rattle.std.proofs.Common.{◌≡◌, ℕ, Bool, true, false, Option, Some, None, Result, Ok, Err, refl, sym, ap, subst}
use Rattle.std.specs.Prelude.{IfSome, if◌then◌else◌}
use Rattle.pt_choice.specs.declared.choice.Choice.{Choice}
use Rattle.pt_choice.specs.declared.kind.Shape.{Shape}
use Rattle.pt_case.specs.declared.ending.Origin.{Origin}
use Rattle.pt_case.specs.declared.note.Note.{Note}
use Rattle.pt_case.specs.declared.stop.Stop.{Stop}
use Rattle.pt_case.specs.declared.stop.Stop.TheVariants as case
use Rattle.pt_case.specs.State.{State, after_leave}
use Rattle.pt_plan.specs.Halt.{Halt, Rejection, Fault, case_halt}
use Rattle.pt_plan.specs.Stop.{draw_halt, draw_stop_of}
use Rattle.pt_plan.specs.Plan.{Plan, Gives, Rejects, Faults, Asks, Enters, Leaves, Notes, and_then}
use Rattle.pt_plan.specs.Came.{Came, CameTo, Drew}
use Rattle.pt_plan.proofs.CameLemmas.{came-then, came-halted}

-- The plan led the case from the one state to the other, and this is left of it there: what comes of the rest comes of the whole.
pub record Leads {A : Type 0} (plan : Plan A) (old : State) (rest : Plan A) (now : State) : Type 0 where
  pub comes : (new : State) (outcome : Result A Halt) → Came rest now new outcome → Came plan old new outcome

-- at the start
pub leads-new : {A : Type 0} (plan : Plan A) (old : State) → Leads plan old plan old
leads-new plan old = record { comes = λ new outcome came. came }

-- where the rest is another plan
pub leads-is : {A : Type 0} {plan rest other : Plan A} {old now : State} → Leads plan old rest now → rest ≡ other → Leads plan old other now
leads-is {plan = plan} {old = old} {now = now} way same = subst (λ p. Leads plan old p now) same way

-- where the rest goes by a truth value
pub leads-true : {A : Type 0} (one other : Plan A) {plan : Plan A} {old now : State} {truth : Bool} → truth ≡ true →
    Leads plan old (if truth then one else other) now → Leads plan old one now
leads-true one other is way = leads-is way (ap (λ truth. if truth then one else other) is)

pub leads-false : {A : Type 0} (one other : Plan A) {plan : Plan A} {old now : State} {truth : Bool} → truth ≡ false →
    Leads plan old (if truth then one else other) now → Leads plan old other now
leads-false one other is way = leads-is way (ap (λ truth. if truth then one else other) is)

-- after a call that went well
pub leads-call : {A B E : Type 0} {halt : E → Option Halt} {part : Plan A} {plan : Plan B} {old now after : State} {value : A} →
    Drew halt part now after (Ok value) → (next : A → Plan B) → Leads plan old (and_then part next) now → Leads plan old (next value) after
leads-call {part = part} {now = now} {after = after} {value = value} drew next way = record {
  comes = λ new outcome came. way.comes new outcome (came-then part next now after new value outcome drew.came came);
}

-- after a question was answered
pub leads-asked : {A E : Type 0} {halt : E → Option Halt} {plan : Plan A} {next : Choice → Plan A} {old now after : State} {kind : Shape} {choice : Choice} →
    Drew halt (Asks kind (λ choice. Gives choice)) now after (Ok choice) → Leads plan old (Asks kind next) now → Leads plan old (next choice) after
leads-asked {next = next} drew way = leads-call drew next way

-- after a call whose value is not used
pub leads-unused : {A B E : Type 0} {halt : E → Option Halt} {part : Plan A} {plan rest : Plan B} {old now after : State} {value : A} →
    Drew halt part now after (Ok value) → Leads plan old (and_then part (λ value. rest)) now → Leads plan old rest after
leads-unused {A = A} {rest = rest} drew way = leads-call drew (λ (value : A). rest) way

-- after a span was entered, and left
pub leads-entered : {A E : Type 0} {halt : E → Option Halt} {plan rest : Plan A} {old now after : State} {label : ℕ} →
    Drew {A = Unit {0}} halt (Enters label (Gives tt)) now after (Ok tt) → Leads plan old (Enters label rest) now → Leads plan old rest after
leads-entered {rest = rest} drew way = leads-call drew (λ (u : Unit {0}). rest) way

pub leads-left : {A : Type 0} {plan rest : Plan A} {old now after : State} →
    after ≡ after_leave now → Leads plan old (Leaves rest) now → Leads plan old rest after
leads-left left way = record { comes = λ new outcome came. way.comes new outcome (rw left at came) }

-- after a note
pub leads-noted : {A E : Type 0} {halt : E → Option Halt} {plan rest : Plan A} {old now after : State} {note : Note} →
    Drew {A = Unit {0}} halt (Notes note (Gives tt)) now after (Ok tt) → Leads plan old (Notes note rest) now → Leads plan old rest after
leads-noted {rest = rest} drew way = leads-call drew (λ (u : Unit {0}). rest) way

-- at the end
pub drew-ended : {A E : Type 0} {halt : E → Option Halt} {plan : Plan A} {old now : State} {value : A} →
    Leads plan old (Gives value) now → Drew halt plan old now (Ok value)
drew-ended way = record { came = way.comes _ _ (refl, refl) }

-- of what an error means comes what the call says
told : {A E : Type 0} (halt : E → Option Halt) (plan : Plan A) (old now : State) (why : E) (means : Option Halt) → halt why ≡ means →
    IfSome means (λ (reason : Halt). Came plan old now (Err reason)) → Drew halt plan old now (Err why)
told halt plan old now why means is came =
    record { came = subst (λ (o : Option Halt). IfSome o (λ reason. Came plan old now (Err reason))) (sym is) came }

-- at a rejection, and at a fault, by an error that means it
pub drew-rejected : {A E : Type 0} {halt : E → Option Halt} {plan : Plan A} {old now : State} {why : E} → halt why ≡ Some Rejection →
    Leads plan old Rejects now → Drew halt plan old now (Err why)
drew-rejected {halt = halt} {plan = plan} {old = old} {now = now} {why = why} is way =
    told halt plan old now why (Some Rejection) is (way.comes now (Err Rejection) (refl, refl))

pub drew-faulted : {A E : Type 0} {halt : E → Option Halt} {plan : Plan A} {old now : State} {why : E} {origin : Origin} →
    halt why ≡ Some (Fault origin) → Leads plan old (Faults origin) now → Drew halt plan old now (Err why)
drew-faulted {halt = halt} {plan = plan} {old = old} {now = now} {why = why} {origin = origin} is way =
    told halt plan old now why (Some (Fault origin)) is (way.comes now (Err (Fault origin)) (refl, refl))

-- for want of memory, by an error that says nothing
pub drew-nothing : {A E : Type 0} {halt : E → Option Halt} {plan : Plan A} {old now : State} {why : E} → halt why ≡ None → Drew halt plan old now (Err why)
drew-nothing {halt = halt} {plan = plan} {old = old} {now = now} {why = why} is = told halt plan old now why None is tt

-- at a call that came to no value, whose error is handed on as one that means the same
pub drew-from : {A B E F : Type 0} {halt : E → Option Halt} {inner : F → Option Halt} {part : Plan A} {plan : Plan B} {old now after : State}
    {why : E} {given : F} → halt why ≡ inner given → Drew inner part now after (Err given) → (next : A → Plan B) →
    Leads plan old (and_then part next) now → Drew halt plan old after (Err why)
drew-from {halt = halt} {inner = inner} {part = part} {plan = plan} {old = old} {now = now} {after = after} {why = why} {given = given} same drew next way =
    told halt plan old after why (inner given) same (at (inner given) drew.came)
  where
    at : (means : Option Halt) → IfSome means (λ (reason : Halt). Came part now after (Err reason)) → IfSome means (λ (reason : Halt). Came plan old after (Err reason))
    at (Some reason) came = way.comes after (Err reason) (came-halted part next now after reason came)
    at None came = tt

-- the same error
pub drew-call : {A B E : Type 0} {halt : E → Option Halt} {part : Plan A} {plan : Plan B} {old now after : State} {why : E} →
    Drew halt part now after (Err why) → (next : A → Plan B) → Leads plan old (and_then part next) now → Drew halt plan old after (Err why)
drew-call drew next way = drew-from refl drew next way

-- what a case answers means as much as what a draw makes of it
pub stop-means : (why : Stop) → draw_halt (draw_stop_of why) ≡ case_halt why
stop-means case.Overrun = refl
stop-means case.NoMemory = refl

-- at a call that gives a case's own errors, in a draw
pub drew-stopped : {A B : Type 0} {part : Plan A} {plan : Plan B} {old now after : State} {why : Stop} →
    Drew case_halt part now after (Err why) → (next : A → Plan B) → Leads plan old (and_then part next) now →
    Drew draw_halt plan old after (Err (draw_stop_of why))
drew-stopped {why = why} drew next way = drew-from (stop-means why) drew next way

-- the same where its value would not be used
pub drew-unused : {A B : Type 0} {part : Plan A} {plan : Plan B} {old now after : State} {why : Stop} →
    Drew case_halt part now after (Err why) → (rest : Plan B) → Leads plan old (and_then part (λ value. rest)) now →
    Drew draw_halt plan old after (Err (draw_stop_of why))
drew-unused {A = A} drew rest way = drew-stopped drew (λ (value : A). rest) way

-- at a question, a span and a note
pub drew-asked : {A : Type 0} {plan : Plan A} {next : Choice → Plan A} {old now after : State} {kind : Shape} {why : Stop} →
    Drew case_halt (Asks kind (λ choice. Gives choice)) now after (Err why) → Leads plan old (Asks kind next) now →
    Drew draw_halt plan old after (Err (draw_stop_of why))
drew-asked {next = next} drew way = drew-stopped drew next way

pub drew-entered : {A : Type 0} {plan rest : Plan A} {old now after : State} {label : ℕ} {why : Stop} →
    Drew {A = Unit {0}} case_halt (Enters label (Gives tt)) now after (Err why) → Leads plan old (Enters label rest) now →
    Drew draw_halt plan old after (Err (draw_stop_of why))
drew-entered {rest = rest} drew way = drew-stopped drew (λ (u : Unit {0}). rest) way

pub drew-noted : {A : Type 0} {plan rest : Plan A} {old now after : State} {note : Note} {why : Stop} →
    Drew {A = Unit {0}} case_halt (Notes note (Gives tt)) now after (Err why) → Leads plan old (Notes note rest) now →
    Drew draw_halt plan old after (Err (draw_stop_of why))
drew-noted {rest = rest} drew way = drew-stopped drew (λ (u : Unit {0}). rest) way

-- at a last call, which is all that is left
pub drew-rest : {A E : Type 0} {halt : E → Option Halt} {plan rest : Plan A} {old now after : State} {result : Result A E} →
    Drew halt rest now after result → Leads plan old rest now → Drew halt plan old after result
drew-rest {A = A} {E = E} {halt = halt} {plan = plan} {rest = rest} {old = old} {now = now} {after = after} {result = result} drew way = at result drew.came
  where
    means : (reason : Option Halt) → IfSome reason (λ (r : Halt). Came rest now after (Err r)) → IfSome reason (λ (r : Halt). Came plan old after (Err r))
    means (Some reason) came = way.comes after (Err reason) came
    means None came = tt

    at : (result : Result A E) → CameTo halt rest now after result → Drew halt plan old after result
    at (Ok value) came = record { came = way.comes _ _ came }
    at (Err why) came = record { came = means (halt why) came }
