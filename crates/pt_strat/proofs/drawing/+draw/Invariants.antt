use Rattle.std.proofs.Common.{◌≡◌, ℕ, ◌+◌, ◌*◌, [], ◌∷◌, ◌++◌, length, drop}
use Rattle.pt_ast.specs.Plain.{plain_expr, plain_strat, plain_strats}
use Rattle.pt_eval.specs.Env.{bound}
use Rattle.pt_eval.specs.Value.{evaluated}
use Rattle.pt_plan.specs.Open.{open_spans}
use Rattle.pt_plan.proofs.DrewLemmas.{Leads}
use Rattle.pt_strat.specs.Parts.{elements_plan, try_plan, tries_plan}
use Rattle.pt_strat.specs.Strategy.{plan_of, tuple_plan}
use Rattle.pt_strat.specs.Scope.{plain_scope, self_plan}
use Rattle.pt_strat.specs.Weight.{weight, weights, scope_weight, levels_weight}
use Rattle.pt_strat.proofs.drawing.+draw.Given as goal

abbrev pub decreases-draw_in : goal.decreases-draw_in
decreases-draw_in l = weight (plain_strat l.s.now) (scope_weight (plain_scope l.scope.now)) * 4 + 3

abbrev pub decreases-draw_inside : goal.decreases-draw_inside
decreases-draw_inside l = weight (plain_strat l.s.now) (scope_weight (plain_scope l.scope.now)) * 4 + 2

abbrev pub decreases-draw_elements : goal.decreases-draw_elements
decreases-draw_elements l = weight (plain_strat l.element.now) (scope_weight (plain_scope l.scope.now)) * 4 + 5

abbrev pub decreases-draw_element : goal.decreases-draw_element
decreases-draw_element l = weight (plain_strat l.element.now) (scope_weight (plain_scope l.scope.now)) * 4 + 4

abbrev pub decreases-draw_parts : goal.decreases-draw_parts
decreases-draw_parts l = weights (plain_strats l.parts.now) (scope_weight (plain_scope l.scope.now)) * 4 + 4

abbrev pub decreases-draw_member : goal.decreases-draw_member
decreases-draw_member l = weights (plain_strats l.parts.now) (scope_weight (plain_scope l.scope.now)) * 4 + 4

abbrev pub decreases-draw_image : goal.decreases-draw_image
decreases-draw_image l = weight (plain_strat l.inner.now) (scope_weight (plain_scope l.scope.now)) * 4 + 4

abbrev pub decreases-draw_filtered : goal.decreases-draw_filtered
decreases-draw_filtered l = weight (plain_strat l.inner.now) (scope_weight (plain_scope l.scope.now)) * 4 + 5

abbrev pub decreases-draw_try : goal.decreases-draw_try
decreases-draw_try l = weight (plain_strat l.inner.now) (scope_weight (plain_scope l.scope.now)) * 4 + 4

abbrev pub decreases-draw_by_value : goal.decreases-draw_by_value
decreases-draw_by_value l =
    (weight (plain_strat l.inner.now) (scope_weight (plain_scope l.scope.now)) + weight (plain_strat l.second.now) (scope_weight (plain_scope l.scope.now))) * 4 + 4

abbrev pub decreases-draw_levels : goal.decreases-draw_levels
decreases-draw_levels l =
    levels_weight (weight (plain_strat l.first.now) (scope_weight (plain_scope l.scope.now))) (λ again. weight (plain_strat l.second.now) again) l.depth * 4 + 1

abbrev pub decreases-draw_self : goal.decreases-draw_self
decreases-draw_self l = scope_weight (plain_scope l.scope.now) * 4 + 2

-- so many more elements may come
abbrev pub invariant-draw_elements-loop-count : goal.invariant-draw_elements-loop-count
invariant-draw_elements-loop-count l =
    (room : ℕ) × (room + l.count ≡ l.lengths.most) × (length l.values ≡ l.count)
    × Leads (elements_plan l.label (plan_of (plain_strat l.element) (self_plan (plain_scope l.scope)) l.fn.env) l.lengths.least l.lengths.most []) l.fn.case
    (elements_plan l.label (plan_of (plain_strat l.element) (self_plan (plain_scope l.scope)) l.fn.env) l.lengths.least room l.values) l.case
    × (open_spans l.case ≡ open_spans l.fn.case) × (l.env ≡ l.fn.env)

-- the parts that are left are still to be drawn
abbrev pub invariant-draw_parts-loop-part : goal.invariant-draw_parts-loop-part
invariant-draw_parts-loop-part l =
    Leads (tuple_plan (plain_strats l.parts) (self_plan (plain_scope l.scope)) l.fn.env []) l.fn.case
    (tuple_plan (plain_strats (drop l.part-index l.parts)) (self_plan (plain_scope l.scope)) l.fn.env l.values) l.case
    × (open_spans l.case ≡ open_spans l.fn.case) × (l.env ≡ l.fn.env)

-- so many tries are left
abbrev pub invariant-draw_filtered-loop-try : goal.invariant-draw_filtered-loop-try
invariant-draw_filtered-loop-try l =
    (tries : ℕ) × (tries + l._try ≡ 3)
    × Leads (tries_plan (try_plan l.label (plan_of (plain_strat l.inner) (self_plan (plain_scope l.scope)) l.fn.env)
    (λ value. evaluated (plain_expr l.cond) (l.fn.env ++ bound l.name value ∷ []))) 3) l.fn.case
    (tries_plan (try_plan l.label (plan_of (plain_strat l.inner) (self_plan (plain_scope l.scope)) l.fn.env)
    (λ value. evaluated (plain_expr l.cond) (l.fn.env ++ bound l.name value ∷ []))) tries) l.case
    × (open_spans l.case ≡ open_spans l.fn.case) × (l.env ≡ l.fn.env)
