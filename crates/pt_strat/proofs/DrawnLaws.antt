-- What a draw leaves that is led by a strategy's plan.
use Rattle.std.proofs.Common.{◌≡◌, ◌≢◌, ◌⊎◌, ℕ, true, false, Option, Some, None, Result, Ok, Err, List, inl, inr, refl, subst}
use Rattle.std.specs.Prelude.{is_some, IfOk, if◌then◌else◌}
use Rattle.std.specs.Option.{option_or}
use Rattle.pt_case.specs.declared.refused.Refused.{Refused}
use Rattle.pt_val.specs.declared.val.Val.{Val}
use Rattle.pt_case.specs.State.{State}
use Rattle.pt_ast.specs.declared.binding.Binding.{Binding}
use Rattle.pt_ast.specs.Trees.{StratTree, num_of}
use Rattle.pt_plan.specs.declared.stop.DrawStop.{DrawStop}
use Rattle.pt_plan.specs.declared.stop.DrawStop.TheVariants as stop
use Rattle.pt_plan.specs.Halt.{Halt, Rejection, Fault, Refusal}
use Rattle.pt_plan.specs.Stop.{draw_halt}
use Rattle.pt_plan.specs.Kept.{KeepsSpans, is_refusal}
use Rattle.pt_plan.specs.Plan.{Plan, Gives, Rejects, Enters, Leaves, and_then, within}
use Rattle.pt_plan.specs.Came.{Came, Drew}
use Rattle.pt_plan.proofs.KeptLemmas.{came-stopped}
use Rattle.pt_plan.proofs.EveryLemmas.{gives-came, balanced-keeps, silent-came}
use Rattle.pt_strat.specs.Labels.{node_label}
use Rattle.pt_strat.specs.Strategy.{is_self, inner_plan, plan_of}
use Rattle.pt_strat.specs.Member.{IsOneOf}
use Rattle.pt_strat.specs.Laws.{is_overrun}
use Rattle.pt_strat.specs.Statement.{leaving}
use Rattle.pt_strat.proofs.MemberLaws.{gives-its-own}
use Rattle.pt_strat.proofs.QuietLaws.{leaves-its-spans, stays-silent}

-- what was refused first is still refused
still-refused : (first : Option Refused) (refused : Refused) → is_some (option_or first (Some refused)) ≡ true
still-refused (Some one) refused = refl
still-refused None refused = refl

-- a plan that begins with a span is refused exactly where the case is stopped, also where it was before
begun-stopped : {A : Type 0} (label : ℕ) (next : Plan A) (old new : State) (outcome : Result A Halt) → Came (Enters label next) old new outcome →
    is_some new.refused ≡ is_refusal outcome
begun-stopped label next old new outcome came = elim came [
  | inl h ↦ came-stopped (Enters label next) old new outcome h.1.going (inl h)
  | inr h ↦ rw (h.0, h.2) (still-refused old.refused _)
]

module _ (tree : StratTree) (env : List Binding) (old new : State) where
  pub drawn-inside : (result : Result Val DrawStop) → Drew draw_halt (plan_of tree Rejects env) old new result → IfOk result (IsOneOf tree env)
  drawn-inside (Ok value) drew = gives-came (IsOneOf tree env) (plan_of tree Rejects env) old new value (gives-its-own tree env) drew.came
  drawn-inside (Err why) drew = tt

  pub drawn-spans : (result : Result Val DrawStop) → Drew draw_halt (plan_of tree Rejects env) old new result → result ≢ Err stop.NoMemory → KeepsSpans old new
  drawn-spans (Ok value) drew some = balanced-keeps (plan_of tree Rejects env) old new (Ok value) (leaves-its-spans tree env) drew.came
  drawn-spans (Err stop.Reject) drew some = balanced-keeps (plan_of tree Rejects env) old new (Err Rejection) (leaves-its-spans tree env) drew.came
  drawn-spans (Err stop.Overrun) drew some = balanced-keeps (plan_of tree Rejects env) old new (Err Refusal) (leaves-its-spans tree env) drew.came
  drawn-spans (Err (stop.Fault origin)) drew some = balanced-keeps (plan_of tree Rejects env) old new (Err (Fault origin)) (leaves-its-spans tree env) drew.came
  drawn-spans (Err stop.NoMemory) drew some = absurd (some refl)

  pub drawn-notes : (result : Result Val DrawStop) → Drew draw_halt (plan_of tree Rejects env) old new result → result ≢ Err stop.NoMemory → new.notes ≡ old.notes
  drawn-notes (Ok value) drew some = silent-came (plan_of tree Rejects env) old new (Ok value) (stays-silent tree env) drew.came
  drawn-notes (Err stop.Reject) drew some = silent-came (plan_of tree Rejects env) old new (Err Rejection) (stays-silent tree env) drew.came
  drawn-notes (Err stop.Overrun) drew some = silent-came (plan_of tree Rejects env) old new (Err Refusal) (stays-silent tree env) drew.came
  drawn-notes (Err (stop.Fault origin)) drew some = silent-came (plan_of tree Rejects env) old new (Err (Fault origin)) (stays-silent tree env) drew.came
  drawn-notes (Err stop.NoMemory) drew some = absurd (some refl)

  -- the case is stopped exactly where it refused
  refused-exactly : (outcome : Result Val Halt) → (old.refused ≡ None) ⊎ (is_self tree ≡ false) → Came (plan_of tree Rejects env) old new outcome →
      is_some new.refused ≡ is_refusal outcome
  refused-exactly outcome begins came = elim begins [
    | inl going ↦ came-stopped (plan_of tree Rejects env) old new outcome going came
    | inr not ↦ begun-stopped (node_label (num_of tree)) (and_then (inner_plan tree Rejects env) (λ value. Leaves (Gives value))) old new outcome (subst (λ again. Came (if again then inner_plan tree Rejects env
        else within (node_label (num_of tree)) (inner_plan tree Rejects env)) old new outcome) not came)
  ]

  pub drawn-stopped : (result : Result Val DrawStop) → Drew draw_halt (plan_of tree Rejects env) old new result → (old.refused ≡ None) ⊎ (is_self tree ≡ false) →
      result ≢ Err stop.NoMemory → is_some new.refused ≡ is_overrun result
  drawn-stopped (Ok value) drew begins some = refused-exactly (Ok value) begins drew.came
  drawn-stopped (Err stop.Reject) drew begins some = refused-exactly (Err Rejection) begins drew.came
  drawn-stopped (Err stop.Overrun) drew begins some = refused-exactly (Err Refusal) begins drew.came
  drawn-stopped (Err (stop.Fault origin)) drew begins some = refused-exactly (Err (Fault origin)) begins drew.came
  drawn-stopped (Err stop.NoMemory) drew begins some = absurd (some refl)

-- of any plan, on a case that was going
pub going-stopped : {A B : Type 0} (plan : Plan B) (left : B) (old new : State) (result : Result A DrawStop) → Drew draw_halt plan old new (leaving left result) →
    old.refused ≡ None → result ≢ Err stop.NoMemory → is_some new.refused ≡ is_overrun result
going-stopped plan left old new (Ok value) drew going some = came-stopped plan old new (Ok left) going drew.came
going-stopped plan left old new (Err stop.Reject) drew going some = came-stopped plan old new (Err Rejection) going drew.came
going-stopped plan left old new (Err stop.Overrun) drew going some = came-stopped plan old new (Err Refusal) going drew.came
going-stopped plan left old new (Err (stop.Fault origin)) drew going some = came-stopped plan old new (Err (Fault origin)) going drew.came
going-stopped plan left old new (Err stop.NoMemory) drew going some = absurd (some refl)
