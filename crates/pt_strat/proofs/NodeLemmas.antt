-- How a node and `self` are drawn.
use Rattle.std.proofs.Common.{◌≡◌, Bor, ℕ, true, false, refl, List, Result, Ok, Err, sym, ◌∙◌, ap, subst}
use Rattle.std.specs.Prelude.{if◌then◌else◌}
use Rattle.pt_val.specs.declared.val.Val.{Val}
use Rattle.pt_case.specs.declared.stop.Stop.{Stop}
use Rattle.pt_case.specs.State.{State, after_leave}
use Rattle.pt_ast.specs.declared.binding.Binding.{Binding}
use Rattle.pt_ast.specs.declared.strat.Strat.{Strat}
use Rattle.pt_ast.specs.Trees.{StratTree, Ints_of, Bools_of, Texts_of, Blobs_of, Sampled_of, Lists_of, Tuples_of, OneOf_of, Map_of, Filter_of, FlatMap_of, Recursive_of, Self_of, num_of}
use Rattle.pt_ast.specs.Plain.{plain_strat}
use Rattle.pt_ast.proofs.StratShapes.{plain-number}
use Rattle.pt_plan.specs.declared.stop.DrawStop.{DrawStop}
use Rattle.pt_plan.specs.Halt.{case_halt}
use Rattle.pt_plan.specs.Stop.{draw_halt, draw_stop_of}
use Rattle.pt_plan.specs.Plan.{Plan, Gives, Enters, within}
use Rattle.pt_plan.specs.Came.{Drew}
use Rattle.pt_strat.specs.declared.scope.Scope.{Scope}
use Rattle.pt_strat.specs.declared.scope.Scope.TheVariants as around
use Rattle.pt_strat.specs.Labels.{node_label}
use Rattle.pt_strat.specs.Parts.{recursive_plan}
use Rattle.pt_strat.specs.Strategy.{is_self, in_span, inner_plan, plan_of}
use Rattle.pt_strat.specs.Scope.{plain_scope, self_plan}
use Rattle.pt_strat.proofs.ScopeLemmas.{plain-inside}
use Rattle.pt_strat.proofs.DrawLemmas.{span-unentered, inside-failed, inside-drawn}

-- a node of this shape
pub at-node : (s : Strat) (tree : StratTree) (self : Plan Val) (env : List Binding) {old new : State} {result : Result Val DrawStop} →
    plain_strat s ≡ tree → Drew draw_halt (inner_plan tree self env) old new result → Drew draw_halt (inner_plan (plain_strat s) self env) old new result
at-node s tree self env {old = old} {new = new} {result = result} is drew = subst (λ t. Drew draw_halt (inner_plan t self env) old new result) (sym is) drew

node-span : (s : Strat) (plan : Plan Val) → is_self (plain_strat s) ≡ false → in_span (plain_strat s) plan ≡ within (node_label s.num) plan
node-span s plan not = ap (λ again. if again then plan else within (node_label (num_of (plain_strat s))) plan) not
    ∙ ap (λ num. within (node_label num) plan) (plain-number s)

module _ (s : Strat) (self : Plan Val) (env : List Binding) {old : State} {label : ℕ} (same : label ≡ node_label s.num)
    (not : is_self (plain_strat s) ≡ false) where
  pub node-unentered : {new : State} {why : Stop} → Drew {A = Unit {0}} case_halt (Enters label (Gives tt)) old new (Err why) →
      Drew draw_halt (plan_of (plain_strat s) self env) old new (Err (draw_stop_of why))
  node-unentered {new = new} {why = why} refused = subst (λ p. Drew draw_halt p old new (Err (draw_stop_of why)))
      (sym (node-span s (inner_plan (plain_strat s) self env) not)) (span-unentered (inner_plan (plain_strat s) self env) (rw same at refused))

  pub node-failed : {mid new : State} {why : DrawStop} → Drew {A = Unit {0}} case_halt (Enters label (Gives tt)) old mid (Ok tt) →
      Drew draw_halt (inner_plan (plain_strat s) self env) mid new (Err why) → Drew draw_halt (plan_of (plain_strat s) self env) old new (Err why)
  node-failed {new = new} {why = why} entered drew = subst (λ p. Drew draw_halt p old new (Err why))
      (sym (node-span s (inner_plan (plain_strat s) self env) not)) (inside-failed (inner_plan (plain_strat s) self env) (rw same at entered) drew)

  pub node-drawn : {mid late new : State} {value : Val} → Drew {A = Unit {0}} case_halt (Enters label (Gives tt)) old mid (Ok tt) →
      Drew draw_halt (inner_plan (plain_strat s) self env) mid late (Ok value) → new ≡ after_leave late →
      Drew draw_halt (plan_of (plain_strat s) self env) old new (Ok value)
  node-drawn {new = new} {value = value} entered drew left = subst (λ p. Drew draw_halt p old new (Ok value))
      (sym (node-span s (inner_plan (plain_strat s) self env) not)) (inside-drawn (inner_plan (plain_strat s) self env) (rw same at entered) drew left)

-- what `self` does is what it means
pub self-plan : (tree : StratTree) (self : Plan Val) (env : List Binding) → is_self tree ≡ true → plan_of tree self env ≡ self
self-plan (Self_of at num) self env is = refl
self-plan (Ints_of at num lo hi) self env is = cc
self-plan (Bools_of at num) self env is = cc
self-plan (Texts_of at num alphabet lo hi) self env is = cc
self-plan (Blobs_of at num lo hi) self env is = cc
self-plan (Sampled_of at num list) self env is = cc
self-plan (Lists_of at num element lo hi) self env is = cc
self-plan (Tuples_of at num parts) self env is = cc
self-plan (OneOf_of at num parts) self env is = cc
self-plan (Map_of at num given inner body) self env is = cc
self-plan (Filter_of at num given inner cond) self env is = cc
self-plan (FlatMap_of at num given inner second) self env is = cc
self-plan (Recursive_of at num depth first second) self env is = cc

-- what `self` means inside of a node
abbrev pub levels_of : ℕ → Bor Strat → Bor Strat → Bor (List Binding) → Bor Scope → ℕ → Plan Val
levels_of num first second env outer depth = recursive_plan (node_label num) (plan_of (plain_strat first.now) (self_plan (plain_scope outer.now)) env.now)
    (λ again. plan_of (plain_strat second.now) again env.now) depth

self-span : (scope : Scope) {num depth : ℕ} {first second : Bor Strat} {env : Bor (List Binding)} {outer : Bor Scope} →
    scope ≡ around.Inside num depth first second env outer → self_plan (plain_scope scope) ≡ within (node_label num) (levels_of num first second env outer depth)
self-span scope {num = num} {depth = depth} {first = first} {second = second} {env = env} {outer = outer} is =
    ap (λ s. self_plan (plain_scope s)) is ∙ ap self_plan (plain-inside num depth first second env outer)

module _ (scope : Scope) {num depth : ℕ} {first second : Bor Strat} {env : Bor (List Binding)} {outer : Bor Scope}
    (is : scope ≡ around.Inside num depth first second env outer) {old : State} {label : ℕ} (same : label ≡ node_label num) where
  pub self-unentered : {new : State} {why : Stop} → Drew {A = Unit {0}} case_halt (Enters label (Gives tt)) old new (Err why) →
      Drew draw_halt (self_plan (plain_scope scope)) old new (Err (draw_stop_of why))
  self-unentered {new = new} {why = why} refused = subst (λ p. Drew draw_halt p old new (Err (draw_stop_of why))) (sym (self-span scope is))
      (span-unentered (levels_of num first second env outer depth) (rw same at refused))

  pub self-failed : {mid new : State} {why : DrawStop} → Drew {A = Unit {0}} case_halt (Enters label (Gives tt)) old mid (Ok tt) →
      Drew draw_halt (levels_of num first second env outer depth) mid new (Err why) → Drew draw_halt (self_plan (plain_scope scope)) old new (Err why)
  self-failed {new = new} {why = why} entered drew = subst (λ p. Drew draw_halt p old new (Err why)) (sym (self-span scope is))
      (inside-failed (levels_of num first second env outer depth) (rw same at entered) drew)

  pub self-drawn : {mid late new : State} {value : Val} → Drew {A = Unit {0}} case_halt (Enters label (Gives tt)) old mid (Ok tt) →
      Drew draw_halt (levels_of num first second env outer depth) mid late (Ok value) → new ≡ after_leave late →
      Drew draw_halt (self_plan (plain_scope scope)) old new (Ok value)
  self-drawn {new = new} {value = value} entered drew left = subst (λ p. Drew draw_halt p old new (Ok value)) (sym (self-span scope is))
      (inside-drawn (levels_of num first second env outer depth) (rw same at entered) drew left)
