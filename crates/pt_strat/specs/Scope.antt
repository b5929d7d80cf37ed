-- What `self` means where a strategy is drawn.
use Rattle.std.specs.Prelude.{ℕ, List}
use Rattle.pt_val.specs.declared.val.Val.{Val}
use Rattle.pt_ast.specs.declared.binding.Binding.{Binding}
use Rattle.pt_ast.specs.Trees.{StratTree}
use Rattle.pt_ast.specs.Plain.{plain_strat}
use Rattle.pt_plan.specs.Plan.{Plan, Rejects, within}
use Rattle.pt_strat.specs.declared.scope.Scope.{Scope}
use Rattle.pt_strat.specs.declared.scope.Scope.TheOpen.{Scope-F}
use Rattle.pt_strat.specs.declared.scope.Scope.TheOpen as scope
use Rattle.pt_strat.specs.declared.scope.Scope.TheFolds.{fold-Scope}
use Rattle.pt_strat.specs.Labels.{node_label}
use Rattle.pt_strat.specs.Parts.{recursive_plan}
use Rattle.pt_strat.specs.Strategy.{plan_of}

-- nothing, or a `recursive` in its names so many levels above its end, and what `self` means there
pub data ScopeTree : Type 0 where
  outside : ScopeTree
  inside : ℕ → ℕ → StratTree → StratTree → List Binding → ScopeTree → ScopeTree

abbrev pub scope_step : Scope-F ScopeTree → ScopeTree
scope_step scope.Outside = outside
scope_step (scope.Inside num depth first second env outer) = inside num depth (plain_strat first.now) (plain_strat second.now) env.now outer.now

abbrev pub plain_scope : Scope → ScopeTree
plain_scope = fold-Scope ScopeTree scope_step

-- what `self` does; outside of a `recursive`, where no suite has it, it rejects
abbrev pub self_plan : ScopeTree → Plan Val
self_plan outside = Rejects
self_plan (inside num depth first second env outer) =
    within (node_label num) (recursive_plan (node_label num) (plan_of first (self_plan outer) env) (λ again. plan_of second again env) depth)
