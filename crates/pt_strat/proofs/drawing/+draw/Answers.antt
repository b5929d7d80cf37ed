use Rattle.std.proofs.Common.{◌≡◌, ◌+◌, ◌-◌, ◌*◌, ◌<◌, Some, None, Err, [], ◌∷◌, ◌++◌, length, drop, length-append, refl, sym, ◌∙◌, ap, rules, arith, subst}
use Rattle.std.specs.Prelude.{if◌then◌else◌}
use Rattle.pt_val.specs.declared.val.Val.TheVariants as val
use Rattle.pt_ast.specs.Trees.{strats_in}
use Rattle.pt_ast.specs.Plain.{plain_expr, plain_strat, plain_strats}
use Rattle.pt_ast.proofs.StratShapes.{plain-ints, plain-bools, plain-texts, plain-blobs, plain-sampled, plain-lists, plain-tuples, plain-one_of, plain-map, plain-filter, plain-flat_map, plain-recursive, plain-self}
use Rattle.pt_eval.specs.Env.{bound}
use Rattle.pt_eval.specs.Parts.{members_of, truth_of}
use Rattle.pt_eval.specs.Value.{evaluated}
use Rattle.pt_plan.specs.Plan.{Gives, Rejects, and_then}
use Rattle.pt_plan.specs.Asked.{asked_flag}
use Rattle.pt_plan.specs.Came.{Drew}
use Rattle.pt_plan.specs.Stop.{draw_halt, draw_stop_of}
use Rattle.pt_plan.specs.declared.stop.DrawStop.TheVariants as stop
use Rattle.pt_plan.proofs.DrewLemmas.{leads-new, drew-rejected}
use Rattle.pt_strat.specs.Labels.{node_label, part_label}
use Rattle.pt_strat.specs.Bounds.{range_of, lengths_of}
use Rattle.pt_strat.specs.Parts.{by_value, integer_plan, text_plan, blob_plan, place_plan, sample_plan, more_plan, element_if, list_plan, try_plan}
use Rattle.pt_strat.specs.Strategy.{plan_of, member_plan}
use Rattle.pt_strat.specs.Scope.{plain_scope, self_plan}
use Rattle.pt_strat.specs.Weight.{weight, scope_weight}
use Rattle.pt_strat.proofs.ValueLemmas.{valued-rest, valued-failed, valued-given}
use Rattle.pt_strat.proofs.DrawLemmas.{first-failed, first-stopped, then-rest, then-gives, span-unentered}
use Rattle.pt_strat.proofs.NodeLemmas.{at-node, node-unentered, node-failed, node-drawn, self-plan, self-unentered, self-failed, self-drawn}
use Rattle.pt_strat.proofs.ScopeLemmas.{below-lighter, one-lighter, parts-next}
use Rattle.pt_strat.proofs.ListLemmas.{one-left, element-unasked, element-none, element-failed, element-drawn, elements-full, elements-failed, elements-ended, elements-grown}
use Rattle.pt_strat.proofs.FilterLemmas.{try-failed, try-unheld, try-held, tries-none, tries-failed, tries-passed, tries-missed}
use Rattle.pt_strat.proofs.PartLemmas.{parts-ended, parts-failed, parts-grown, member-is, member-none, as-many, levels-end, levels-unasked, levels-first, levels-deeper}
use Rattle.pt_strat.proofs.drawing.+draw.Goals as goal

pub draw_in-returns-then-is_self-clause-drew : goal.draw_in-returns-then-is_self-clause-drew
draw_in-returns-then-is_self-clause-drew t c =
    subst (λ p. Drew draw_halt p c.args.case.now c.draw_self.new.case c.draw_self.result)
    (sym (self-plan (plain_strat c.args.s.now) (self_plan (plain_scope c.args.scope.now)) c.args.env.now (sym c.is_self.ensures ∙ c.if-is_self.true)))
    c.draw_self.ensures.drew

pub draw_in-returns-in_err-enter-clause-drew : goal.draw_in-returns-in_err-enter-clause-drew
draw_in-returns-in_err-enter-clause-drew t c =
    let gave : c.from_residual.result ≡ Err (draw_stop_of c.in_err-enter.field-0.0) = search rules in
    rw gave (node-unentered c.args.s.now (self_plan (plain_scope c.args.scope.now)) c.args.env.now c.node_label.ensures (sym c.is_self.ensures ∙ c.if-is_self.false)
    c.in_err-enter.ensures.drew)

pub draw_in-returns-in_err-val-clause-drew : goal.draw_in-returns-in_err-val-clause-drew
draw_in-returns-in_err-val-clause-drew t c =
    let gave : c.from_residual-in_err-val.result ≡ Err c.in_err-val.field-0.0 = search rules in
    rw gave (node-failed c.args.s.now (self_plan (plain_scope c.args.scope.now)) c.args.env.now c.node_label.ensures (sym c.is_self.ensures ∙ c.if-is_self.false)
    c.in_ok-enter.ensures.drew c.in_err-val.ensures.drew)

pub draw_in-returns-clause-drew : goal.draw_in-returns-clause-drew
draw_in-returns-clause-drew t c =
    node-drawn c.args.s.now (self_plan (plain_scope c.args.scope.now)) c.args.env.now c.node_label.ensures (sym c.is_self.ensures ∙ c.if-is_self.false)
    c.in_ok-enter.ensures.drew c.in_ok-val.ensures.drew c.leave.ensures.left

pub draw_self-returns-in_err-enter-in-Inside-clause-drew : goal.draw_self-returns-in_err-enter-in-Inside-clause-drew
draw_self-returns-in_err-enter-in-Inside-clause-drew t c =
    let gave : c.from_residual.result ≡ Err (draw_stop_of c.in_err-enter-in-Inside.field-0.0) = search rules in
    rw gave (self-unentered c.args.scope.now c.in-Inside.is c.node_label.ensures c.in_err-enter-in-Inside.ensures.drew)

pub draw_self-returns-in_err-val-in-Inside-clause-drew : goal.draw_self-returns-in_err-val-in-Inside-clause-drew
draw_self-returns-in_err-val-in-Inside-clause-drew t c =
    let gave : c.from_residual-in_err-val-in-Inside.result ≡ Err c.in_err-val-in-Inside.field-0.0 = search rules in
    rw gave (self-failed c.args.scope.now c.in-Inside.is c.node_label.ensures c.in_ok-enter-in-Inside.ensures.drew c.in_err-val-in-Inside.ensures.drew)

pub draw_self-returns-in_ok-val-in-Inside-clause-drew : goal.draw_self-returns-in_ok-val-in-Inside-clause-drew
draw_self-returns-in_ok-val-in-Inside-clause-drew t c =
    self-drawn c.args.scope.now c.in-Inside.is c.node_label.ensures c.in_ok-enter-in-Inside.ensures.drew c.in_ok-val-in-Inside.ensures.drew c.leave.ensures.left

pub draw_levels-returns-then-depth-eq0-clause-drew : goal.draw_levels-returns-then-depth-eq0-clause-drew
draw_levels-returns-then-depth-eq0-clause-drew t c =
    levels-end (node_label c.args.num) _ (λ again. plan_of (plain_strat c.args.second.now) again c.args.env.now) c.args.depth c.if-depth-eq0.true
    (rw c.in_ok-names.ensures at c.draw_in.ensures.drew)

pub draw_levels-returns-in_err-deeper-clause-drew : goal.draw_levels-returns-in_err-deeper-clause-drew
draw_levels-returns-in_err-deeper-clause-drew t c =
    let gave : c.from_residual-in_err-deeper.result ≡ Err (draw_stop_of c.in_err-deeper.field-0.0) = search rules in
    rw gave (levels-unasked (node_label c.args.num) (plan_of (plain_strat c.args.first.now) (self_plan (plain_scope c.args.scope.now)) c.args.env.now)
    (λ again. plan_of (plain_strat c.args.second.now) again c.args.env.now) c.args.depth (c.args.depth - 1)
    (omega (arith, c.if-depth-eq0.false)) c.in_err-deeper.ensures.drew)

pub draw_levels-returns-then-not-deeper-clause-drew : goal.draw_levels-returns-then-not-deeper-clause-drew
draw_levels-returns-then-not-deeper-clause-drew t c =
    levels-first (node_label c.args.num) _ (λ again. plan_of (plain_strat c.args.second.now) again c.args.env.now) c.args.depth (c.args.depth - 1)
    (omega (arith, c.if-depth-eq0.false)) c.in_ok-deeper.ensures.drew c.if-not-deeper.true (rw c.in_ok-names.ensures at c.draw_in-then-not-deeper.ensures.drew)

pub draw_levels-draw_in-requires-2 : goal.draw_levels-draw_in-requires-2
draw_levels-draw_in-requires-2 t c = (
  subst (λ m. weight (plain_strat c.args.second.now) (scope_weight (plain_scope c.inside-below.result)) * 4 + 3 < m) c.decreases
      (below-lighter (plain_scope c.inside-below.result) c.args.num (c.args.depth - 1) (plain_strat c.args.first.now) (plain_strat c.args.second.now) c.args.env.now
      (plain_scope c.args.scope.now) c.args.depth c.inside-below.ensures (omega (arith, c.if-depth-eq0.false))),
  tt,
)

pub draw_levels-returns-clause-drew : goal.draw_levels-returns-clause-drew
draw_levels-returns-clause-drew t c =
    let there = ap self_plan c.inside-below.ensures in
    levels-deeper (node_label c.args.num) (plan_of (plain_strat c.args.first.now) (self_plan (plain_scope c.args.scope.now)) c.args.env.now)
    (λ again. plan_of (plain_strat c.args.second.now) again c.args.env.now) c.args.depth (c.args.depth - 1)
    (omega (arith, c.if-depth-eq0.false)) c.in_ok-deeper.ensures.drew c.if-not-deeper.false (rw c.in_ok-names.ensures at (rw there at c.draw_in-2.ensures.drew))

pub draw_element-returns-in_err-enter-clause-drew : goal.draw_element-returns-in_err-enter-clause-drew
draw_element-returns-in_err-enter-clause-drew t c =
    let element = plan_of (plain_strat c.args.element.now) (self_plan (plain_scope c.args.scope.now)) c.args.env.now in
    let gave : c.from_residual.result ≡ Err (draw_stop_of c.in_err-enter.field-0.0) = search rules in
    rw gave (span-unentered (and_then (more_plan c.args.least c.args.count) (element_if element)) c.in_err-enter.ensures.drew)

pub draw_element-returns-in_err-more-clause-drew : goal.draw_element-returns-in_err-more-clause-drew
draw_element-returns-in_err-more-clause-drew t c =
    let element = plan_of (plain_strat c.args.element.now) (self_plan (plain_scope c.args.scope.now)) c.args.env.now in
    let gave : c.from_residual-in_err-more.result ≡ Err c.in_err-more.field-0.0 = search rules in
    rw gave (element-unasked c.args.label element c.args.least c.args.count c.in_ok-enter.ensures.drew c.in_err-more.ensures.drew)

pub draw_element-returns-then-not-more-clause-drew : goal.draw_element-returns-then-not-more-clause-drew
draw_element-returns-then-not-more-clause-drew t c =
    let element = plan_of (plain_strat c.args.element.now) (self_plan (plain_scope c.args.scope.now)) c.args.env.now in
    element-none c.args.label element c.args.least c.args.count c.in_ok-enter.ensures.drew c.in_ok-more.ensures.drew c.if-not-more.true c.leave.ensures.left

pub draw_element-returns-in_err-value-clause-drew : goal.draw_element-returns-in_err-value-clause-drew
draw_element-returns-in_err-value-clause-drew t c =
    let element = plan_of (plain_strat c.args.element.now) (self_plan (plain_scope c.args.scope.now)) c.args.env.now in
    let gave : c.from_residual-in_err-value.result ≡ Err c.in_err-value.field-0.0 = search rules in
    rw gave (element-failed c.args.label element c.args.least c.args.count c.in_ok-enter.ensures.drew c.in_ok-more.ensures.drew c.if-not-more.false
    c.in_err-value.ensures.drew)

pub draw_element-returns-clause-drew : goal.draw_element-returns-clause-drew
draw_element-returns-clause-drew t c =
    let element = plan_of (plain_strat c.args.element.now) (self_plan (plain_scope c.args.scope.now)) c.args.env.now in
    element-drawn c.args.label element c.args.least c.args.count c.in_ok-enter.ensures.drew c.in_ok-more.ensures.drew c.if-not-more.false
    c.in_ok-value.ensures.drew c.leave-2.ensures.left

pub draw_elements-loop-count-init : goal.draw_elements-loop-count-init
draw_elements-loop-count-init t c = (c.args.lengths.most, omega arith, ap length c.empty-values.ensures, rw c.empty-values.ensures (leads-new _ _), refl, refl)

pub draw_elements-returns-in_err-value-clause-drew : goal.draw_elements-returns-in_err-value-clause-drew
draw_elements-returns-in_err-value-clause-drew t c =
    let so_far = c.loop-count.invariant in
    let one = one-left so_far.0 c.loop-count.count c.args.lengths.most so_far.1 (omega arith) in
    let element = plan_of (plain_strat c.args.element.now) (self_plan (plain_scope c.args.scope.now)) c.args.env.now in
    let gave : c.from_residual.result ≡ Err c.in_err-value.field-0.0 = search rules in
    rw gave (elements-failed c.args.label element c.args.lengths.least so_far.0 one.0 c.loop-count.count c.loop-count.values one.1 (sym so_far.2) so_far.3
    (rw so_far.5 at c.in_err-value.ensures.drew))

pub draw_elements-returns-in-None-clause-drew : goal.draw_elements-returns-in-None-clause-drew
draw_elements-returns-in-None-clause-drew t c =
    let so_far = c.loop-count.invariant in
    let one = one-left so_far.0 c.loop-count.count c.args.lengths.most so_far.1 (omega arith) in
    let element = plan_of (plain_strat c.args.element.now) (self_plan (plain_scope c.args.scope.now)) c.args.env.now in
    elements-ended c.args.label element c.args.lengths.least so_far.0 one.0 c.loop-count.count c.loop-count.values one.1 (sym so_far.2) so_far.3
    (rw so_far.5 at (rw c.in-None.is at c.in_ok-value.ensures.drew))

pub draw_elements-loop-count-preserved : goal.draw_elements-loop-count-preserved
draw_elements-loop-count-preserved t c =
    let so_far = c.loop-count.invariant in
    let one = one-left so_far.0 c.loop-count.count c.args.lengths.most so_far.1 (omega arith) in
    let element = plan_of (plain_strat c.args.element.now) (self_plan (plain_scope c.args.scope.now)) c.args.env.now in
    let way = elements-grown c.args.label element c.args.lengths.least so_far.0 one.0 c.loop-count.count c.loop-count.values one.1 (sym so_far.2) so_far.3
    c.in-Some.value (rw so_far.5 at (rw c.in-Some.is at c.in_ok-value.ensures.drew)) in
    let longer : length c.push.new.self ≡ c.loop-count.count + 1 =
    ap length c.in_ok-push-in-Some.ensures.ok ∙ length-append c.loop-count.values (c.in-Some.value ∷ []) ∙ ap (λ n. n + 1) so_far.2 in (
      one.0,
      omega (arith, one.1, so_far.1),
      longer,
      rw c.in_ok-push-in-Some.ensures.ok way,
      c.in_ok-value.ensures.closed ∙ so_far.4,
      c.in_ok-value.ensures.env ∙ so_far.5,
    )

pub draw_elements-returns-clause-drew : goal.draw_elements-returns-clause-drew
draw_elements-returns-clause-drew t c =
    let so_far = c.loop-count.invariant in
    let element = plan_of (plain_strat c.args.element.now) (self_plan (plain_scope c.args.scope.now)) c.args.env.now in
    elements-full c.args.label element c.args.lengths.least so_far.0 c.loop-count.values (omega (arith, so_far.1)) so_far.3

pub draw_parts-loop-part-init : goal.draw_parts-loop-part-init
draw_parts-loop-part-init t c = (rw c.empty-values.ensures (leads-new _ _), refl, refl)

pub draw_parts-draw_in-requires : goal.draw_parts-draw_in-requires
draw_parts-draw_in-requires t c =
    let lighter = one-lighter c.args.parts.now c.loop-part.part-index c.part-item.result (scope_weight (plain_scope c.args.scope.now)) (omega arith) c.part-item.is in
    let falls = c.decreases in (omega (arith, lighter, falls), tt)

pub draw_parts-returns-in_err-value-clause-drew : goal.draw_parts-returns-in_err-value-clause-drew
draw_parts-returns-in_err-value-clause-drew t c =
    let so_far = c.loop-part.invariant in
    let gave : c.from_residual.result ≡ Err c.in_err-value.field-0.0 = search rules in
    rw gave (parts-failed (plain_strat c.part-item.result) (plain_strats (drop (c.loop-part.part-index + 1) c.args.parts.now)) (plain_strats (drop c.loop-part.part-index c.args.parts.now))
    (self_plan (plain_scope c.args.scope.now)) c.args.env.now c.loop-part.values
    (parts-next c.args.parts.now c.loop-part.part-index c.part-item.result (omega arith) c.part-item.is) so_far.0 (rw so_far.2 at c.in_err-value.ensures.drew))

pub draw_parts-loop-part-preserved : goal.draw_parts-loop-part-preserved
draw_parts-loop-part-preserved t c =
    let so_far = c.loop-part.invariant in
    let way = parts-grown (plain_strat c.part-item.result) (plain_strats (drop (c.loop-part.part-index + 1) c.args.parts.now)) (plain_strats (drop c.loop-part.part-index c.args.parts.now))
    (self_plan (plain_scope c.args.scope.now)) c.args.env.now c.loop-part.values
    (parts-next c.args.parts.now c.loop-part.part-index c.part-item.result (omega arith) c.part-item.is) so_far.0 (rw so_far.2 at c.in_ok-value.ensures.drew) in
    (rw c.in_ok-push.ensures.ok way, c.in_ok-value.ensures.closed ∙ so_far.1, c.in_ok-value.ensures.env ∙ so_far.2)

pub draw_parts-returns-clause-drew : goal.draw_parts-returns-clause-drew
draw_parts-returns-clause-drew t c =
    parts-ended c.args.parts.now (self_plan (plain_scope c.args.scope.now)) c.args.env.now c.loop-part.part-index c.loop-part.values (omega arith) c.loop-part.invariant.0

pub draw_member-returns-then-number-parts-clause-drew : goal.draw_member-returns-then-number-parts-clause-drew
draw_member-returns-then-number-parts-clause-drew t c =
    subst (λ p. Drew draw_halt p c.args.case.now c.args.case.now (Err stop.Reject))
    (sym (member-none c.args.parts.now c.args.number (self_plan (plain_scope c.args.scope.now)) c.args.env.now (search rules)))
    (drew-rejected refl (leads-new Rejects c.args.case.now))

pub draw_member-draw_in-requires : goal.draw_member-draw_in-requires
draw_member-draw_in-requires t c =
    let lighter = one-lighter c.args.parts.now c.args.number c.index-parts-number.result (scope_weight (plain_scope c.args.scope.now)) (search rules) c.index-parts-number.is in
    let falls = c.decreases in (omega (arith, lighter, falls), tt)

pub draw_member-returns-clause-drew : goal.draw_member-returns-clause-drew
draw_member-returns-clause-drew t c =
    subst (λ p. Drew draw_halt p c.args.case.now c.draw_in.new.case c.draw_in.result)
    (sym (member-is c.args.parts.now c.args.number c.index-parts-number.result (self_plan (plain_scope c.args.scope.now)) c.args.env.now (search rules) c.index-parts-number.is))
    c.draw_in.ensures.drew

pub draw_image-returns-in_err-from-clause-drew : goal.draw_image-returns-in_err-from-clause-drew
draw_image-returns-in_err-from-clause-drew t c =
    let gave : c.from_residual.result ≡ Err c.in_err-from.field-0.0 = search rules in
    rw gave (first-failed _ (λ value. by_value (evaluated (plain_expr c.args.body.now) (c.args.env.now ++ bound c.args.name.now value ∷ [])) (λ made. Gives made)) c.in_err-from.ensures.drew)

pub draw_image-returns-clause-drew : goal.draw_image-returns-clause-drew
draw_image-returns-clause-drew t c =
    then-rest _ (λ value. by_value (evaluated (plain_expr c.args.body.now) (c.args.env.now ++ bound c.args.name.now value ∷ [])) (λ made. Gives made)) c.in_ok-from.ensures.drew
    (valued-given (evaluated (plain_expr c.args.body.now) (c.args.env.now ++ bound c.args.name.now c.in_ok-from.from ∷ [])) c.value_with.result
    (rw c.in_ok-from.ensures.env at c.value_with.ensures.valued))

pub draw_by_value-returns-in_err-from-clause-drew : goal.draw_by_value-returns-in_err-from-clause-drew
draw_by_value-returns-in_err-from-clause-drew t c =
    let gave : c.from_residual.result ≡ Err c.in_err-from.field-0.0 = search rules in
    rw gave (first-failed _ (λ value. plan_of (plain_strat c.args.second.now) (self_plan (plain_scope c.args.scope.now)) (c.args.env.now ++ bound c.args.name.now value ∷ []))
    c.in_err-from.ensures.drew)

pub draw_by_value-returns-clause-drew : goal.draw_by_value-returns-clause-drew
draw_by_value-returns-clause-drew t c =
    let same = c.in_ok-from.ensures.env in
    let env : c.bind.new.self ≡ c.args.env.now ++ bound c.args.name.now c.in_ok-from.from ∷ [] = search rules in
    then-rest _ (λ value. plan_of (plain_strat c.args.second.now) (self_plan (plain_scope c.args.scope.now)) (c.args.env.now ++ bound c.args.name.now value ∷ []))
    c.in_ok-from.ensures.drew (rw env at c.draw_in-value.ensures.drew)

pub draw_try-returns-in_err-enter-clause-drew : goal.draw_try-returns-in_err-enter-clause-drew
draw_try-returns-in_err-enter-clause-drew t c =
    let inner = plan_of (plain_strat c.args.inner.now) (self_plan (plain_scope c.args.scope.now)) c.args.env.now in
    let gave : c.from_residual.result ≡ Err (draw_stop_of c.in_err-enter.field-0.0) = search rules in
    rw gave (span-unentered (and_then inner (λ value. by_value (evaluated (plain_expr c.args.cond.now) (c.args.env.now ++ bound c.args.name.now value ∷ []))
    (λ truth. Gives (if truth_of truth then Some value else None)))) c.in_err-enter.ensures.drew)

pub draw_try-returns-in_err-value-clause-drew : goal.draw_try-returns-in_err-value-clause-drew
draw_try-returns-in_err-value-clause-drew t c =
    let inner = plan_of (plain_strat c.args.inner.now) (self_plan (plain_scope c.args.scope.now)) c.args.env.now in
    let gave : c.from_residual-in_err-value.result ≡ Err c.in_err-value.field-0.0 = search rules in
    rw gave (try-failed c.args.label inner (λ value. evaluated (plain_expr c.args.cond.now) (c.args.env.now ++ bound c.args.name.now value ∷ [])) c.in_ok-enter.ensures.drew
    c.in_err-value.ensures.drew)

pub draw_try-returns-in_err-held-clause-drew : goal.draw_try-returns-in_err-held-clause-drew
draw_try-returns-in_err-held-clause-drew t c =
    let inner = plan_of (plain_strat c.args.inner.now) (self_plan (plain_scope c.args.scope.now)) c.args.env.now in
    let gave : c.from_residual-in_err-held.result ≡ Err c.in_err-held.field-0.0 = search rules in
    rw gave (try-unheld c.args.label inner (λ value. evaluated (plain_expr c.args.cond.now) (c.args.env.now ++ bound c.args.name.now value ∷ [])) c.in_ok-enter.ensures.drew
    c.in_ok-value.ensures.drew (rw (c.in_ok-value.ensures.env, c.in_ok-copy.ensures) at c.in_err-held.ensures.valued))

pub draw_try-returns-clause-drew : goal.draw_try-returns-clause-drew
draw_try-returns-clause-drew t c =
    let inner = plan_of (plain_strat c.args.inner.now) (self_plan (plain_scope c.args.scope.now)) c.args.env.now in
    try-held c.args.label inner (λ value. evaluated (plain_expr c.args.cond.now) (c.args.env.now ++ bound c.args.name.now value ∷ [])) c.in_ok-enter.ensures.drew
    c.in_ok-value.ensures.drew (rw (c.in_ok-value.ensures.env, c.in_ok-copy.ensures) at c.in_ok-held.ensures.valued) c.leave.ensures.left
    (c.kept.ensures ∙ ap (λ holds. if holds then Some c.in_ok-value.value else None) c.truth.ensures)

pub draw_filtered-loop-try-init : goal.draw_filtered-loop-try-init
draw_filtered-loop-try-init t c = (3, omega arith, leads-new _ _, refl, refl)

pub draw_filtered-returns-in_err-value-clause-drew : goal.draw_filtered-returns-in_err-value-clause-drew
draw_filtered-returns-in_err-value-clause-drew t c =
    let so_far = c.loop-try.invariant in
    let one = one-left so_far.0 c.loop-try._try 3 so_far.1 (omega arith) in
    let attempt = try_plan c.args.label (plan_of (plain_strat c.args.inner.now) (self_plan (plain_scope c.args.scope.now)) c.args.env.now)
    (λ value. evaluated (plain_expr c.args.cond.now) (c.args.env.now ++ bound c.args.name.now value ∷ [])) in
    let gave : c.from_residual.result ≡ Err c.in_err-value.field-0.0 = search rules in
    rw gave (tries-failed attempt so_far.0 one.0 one.1 so_far.2 (rw so_far.4 at c.in_err-value.ensures.drew))

pub draw_filtered-returns-in-Some-clause-drew : goal.draw_filtered-returns-in-Some-clause-drew
draw_filtered-returns-in-Some-clause-drew t c =
    let so_far = c.loop-try.invariant in
    let one = one-left so_far.0 c.loop-try._try 3 so_far.1 (omega arith) in
    let attempt = try_plan c.args.label (plan_of (plain_strat c.args.inner.now) (self_plan (plain_scope c.args.scope.now)) c.args.env.now)
    (λ value. evaluated (plain_expr c.args.cond.now) (c.args.env.now ++ bound c.args.name.now value ∷ [])) in
    tries-passed attempt so_far.0 one.0 one.1 so_far.2 (rw so_far.4 at (rw c.in-Some.is at c.in_ok-value.ensures.drew))

pub draw_filtered-loop-try-preserved : goal.draw_filtered-loop-try-preserved
draw_filtered-loop-try-preserved t c =
    let so_far = c.loop-try.invariant in
    let one = one-left so_far.0 c.loop-try._try 3 so_far.1 (omega arith) in
    let attempt = try_plan c.args.label (plan_of (plain_strat c.args.inner.now) (self_plan (plain_scope c.args.scope.now)) c.args.env.now)
    (λ value. evaluated (plain_expr c.args.cond.now) (c.args.env.now ++ bound c.args.name.now value ∷ [])) in
    let way = tries-missed attempt so_far.0 one.0 one.1 so_far.2 (rw so_far.4 at (rw c.in-None.is at c.in_ok-value.ensures.drew)) in
    (one.0, omega (arith, one.1, so_far.1), way, c.in_ok-value.ensures.closed ∙ so_far.3, c.in_ok-value.ensures.env ∙ so_far.4)

pub draw_filtered-returns-clause-drew : goal.draw_filtered-returns-clause-drew
draw_filtered-returns-clause-drew t c =
    let so_far = c.loop-try.invariant in
    let attempt = try_plan c.args.label (plan_of (plain_strat c.args.inner.now) (self_plan (plain_scope c.args.scope.now)) c.args.env.now)
    (λ value. evaluated (plain_expr c.args.cond.now) (c.args.env.now ++ bound c.args.name.now value ∷ [])) in
    tries-none attempt so_far.0 (omega (arith, so_far.1)) so_far.2

pub draw_inside-returns-in_err-range-in-Ints-clause-drew : goal.draw_inside-returns-in_err-range-in-Ints-clause-drew
draw_inside-returns-in_err-range-in-Ints-clause-drew t c =
    let gave : c.from_residual.result ≡ Err c.in_err-range-in-Ints.field-0.0 = search rules in
    rw gave (at-node c.args.s.now _ (self_plan (plain_scope c.args.scope.now)) c.args.env.now (plain-ints c.args.s.now c.in-Ints.lo c.in-Ints.hi c.in-Ints.is)
    (valued-failed (range_of c.args.s.now.at (plain_expr c.in-Ints.lo) (plain_expr c.in-Ints.hi) c.args.env.now) integer_plan c.in_err-range-in-Ints.ensures.valued))

pub draw_inside-returns-in_ok-range-in-Ints-clause-drew : goal.draw_inside-returns-in_ok-range-in-Ints-clause-drew
draw_inside-returns-in_ok-range-in-Ints-clause-drew t c =
    at-node c.args.s.now _ (self_plan (plain_scope c.args.scope.now)) c.args.env.now (plain-ints c.args.s.now c.in-Ints.lo c.in-Ints.hi c.in-Ints.is)
    (valued-rest (range_of c.args.s.now.at (plain_expr c.in-Ints.lo) (plain_expr c.in-Ints.hi) c.args.env.now) integer_plan c.in_ok-range-in-Ints.ensures.valued
    c.draw_integer.ensures.drew)

pub draw_inside-returns-in_err-ask_flag-in-Bools-clause-drew : goal.draw_inside-returns-in_err-ask_flag-in-Bools-clause-drew
draw_inside-returns-in_err-ask_flag-in-Bools-clause-drew t c =
    let gave : c.from_residual-in_err-ask_flag-in-Bools.result ≡ Err (draw_stop_of c.in_err-ask_flag-in-Bools.field-0.0) = search rules in
    rw gave (at-node c.args.s.now _ (self_plan (plain_scope c.args.scope.now)) c.args.env.now (plain-bools c.args.s.now c.in-Bools.is)
    (first-stopped (asked_flag 8) (λ flag. Gives (val.Bool flag)) c.in_err-ask_flag-in-Bools.ensures.drew))

pub draw_inside-returns-in_ok-ask_flag-in-Bools-clause-drew : goal.draw_inside-returns-in_ok-ask_flag-in-Bools-clause-drew
draw_inside-returns-in_ok-ask_flag-in-Bools-clause-drew t c =
    at-node c.args.s.now _ (self_plan (plain_scope c.args.scope.now)) c.args.env.now (plain-bools c.args.s.now c.in-Bools.is)
    (then-gives (asked_flag 8) (λ flag. val.Bool flag) c.in_ok-ask_flag-in-Bools.ensures.drew)

pub draw_inside-returns-in_err-lengths-in-Texts-clause-drew : goal.draw_inside-returns-in_err-lengths-in-Texts-clause-drew
draw_inside-returns-in_err-lengths-in-Texts-clause-drew t c =
    let gave : c.from_residual-in_err-lengths-in-Texts.result ≡ Err c.in_err-lengths-in-Texts.field-0.0 = search rules in
    rw gave (at-node c.args.s.now _ (self_plan (plain_scope c.args.scope.now)) c.args.env.now
    (plain-texts c.args.s.now c.in-Texts.alphabet c.in-Texts.lo c.in-Texts.hi c.in-Texts.is)
    (valued-failed (lengths_of c.args.s.now.at 64 (plain_expr c.in-Texts.lo) (plain_expr c.in-Texts.hi) c.args.env.now)
    (text_plan c.args.s.now.at c.in-Texts.alphabet.chars) c.in_err-lengths-in-Texts.ensures.valued))

pub draw_inside-returns-in_ok-lengths-in-Texts-clause-drew : goal.draw_inside-returns-in_ok-lengths-in-Texts-clause-drew
draw_inside-returns-in_ok-lengths-in-Texts-clause-drew t c =
    let chars : c.as_slice.result.now ≡ c.in-Texts.alphabet.chars = search rules in
    at-node c.args.s.now _ (self_plan (plain_scope c.args.scope.now)) c.args.env.now
    (plain-texts c.args.s.now c.in-Texts.alphabet c.in-Texts.lo c.in-Texts.hi c.in-Texts.is)
    (valued-rest (lengths_of c.args.s.now.at 64 (plain_expr c.in-Texts.lo) (plain_expr c.in-Texts.hi) c.args.env.now)
    (text_plan c.args.s.now.at c.in-Texts.alphabet.chars) c.in_ok-lengths-in-Texts.ensures.valued (rw chars at c.draw_text.ensures.drew))

pub draw_inside-returns-in_err-lengths-in-Blobs-clause-drew : goal.draw_inside-returns-in_err-lengths-in-Blobs-clause-drew
draw_inside-returns-in_err-lengths-in-Blobs-clause-drew t c =
    let gave : c.from_residual-in_err-lengths-in-Blobs.result ≡ Err c.in_err-lengths-in-Blobs.field-0.0 = search rules in
    rw gave (at-node c.args.s.now _ (self_plan (plain_scope c.args.scope.now)) c.args.env.now (plain-blobs c.args.s.now c.in-Blobs.lo c.in-Blobs.hi c.in-Blobs.is)
    (valued-failed (lengths_of c.args.s.now.at 64 (plain_expr c.in-Blobs.lo) (plain_expr c.in-Blobs.hi) c.args.env.now) blob_plan
    c.in_err-lengths-in-Blobs.ensures.valued))

pub draw_inside-returns-in_ok-lengths-in-Blobs-clause-drew : goal.draw_inside-returns-in_ok-lengths-in-Blobs-clause-drew
draw_inside-returns-in_ok-lengths-in-Blobs-clause-drew t c =
    at-node c.args.s.now _ (self_plan (plain_scope c.args.scope.now)) c.args.env.now (plain-blobs c.args.s.now c.in-Blobs.lo c.in-Blobs.hi c.in-Blobs.is)
    (valued-rest (lengths_of c.args.s.now.at 64 (plain_expr c.in-Blobs.lo) (plain_expr c.in-Blobs.hi) c.args.env.now) blob_plan
    c.in_ok-lengths-in-Blobs.ensures.valued c.draw_blob.ensures.drew)

pub draw_inside-returns-in_err-list-in-SampledFrom-clause-drew : goal.draw_inside-returns-in_err-list-in-SampledFrom-clause-drew
draw_inside-returns-in_err-list-in-SampledFrom-clause-drew t c =
    let gave : c.from_residual-in_err-list-in-SampledFrom.result ≡ Err c.in_err-list-in-SampledFrom.field-0.0 = search rules in
    rw gave (at-node c.args.s.now _ (self_plan (plain_scope c.args.scope.now)) c.args.env.now (plain-sampled c.args.s.now c.in-SampledFrom.list c.in-SampledFrom.is)
    (valued-failed (evaluated (plain_expr c.in-SampledFrom.list) c.args.env.now) (λ items. sample_plan c.args.s.now.at (members_of items))
    c.in_err-list-in-SampledFrom.ensures))

pub draw_inside-returns-in_ok-list-in-SampledFrom-clause-drew : goal.draw_inside-returns-in_ok-list-in-SampledFrom-clause-drew
draw_inside-returns-in_ok-list-in-SampledFrom-clause-drew t c =
    at-node c.args.s.now _ (self_plan (plain_scope c.args.scope.now)) c.args.env.now (plain-sampled c.args.s.now c.in-SampledFrom.list c.in-SampledFrom.is)
    (valued-rest (evaluated (plain_expr c.in-SampledFrom.list) c.args.env.now) (λ items. sample_plan c.args.s.now.at (members_of items))
    c.in_ok-list-in-SampledFrom.ensures (rw c.members.ensures at c.draw_sample.ensures.drew))

pub draw_inside-returns-in_err-lengths-in-Lists-clause-drew : goal.draw_inside-returns-in_err-lengths-in-Lists-clause-drew
draw_inside-returns-in_err-lengths-in-Lists-clause-drew t c =
    let element = plan_of (plain_strat c.in-Lists.element.value) (self_plan (plain_scope c.args.scope.now)) c.args.env.now in
    let gave : c.from_residual-in_err-lengths-in-Lists.result ≡ Err c.in_err-lengths-in-Lists.field-0.0 = search rules in
    rw gave (at-node c.args.s.now _ (self_plan (plain_scope c.args.scope.now)) c.args.env.now (plain-lists c.args.s.now c.in-Lists.element c.in-Lists.lo c.in-Lists.hi c.in-Lists.is)
    (valued-failed (lengths_of c.args.s.now.at 256 (plain_expr c.in-Lists.lo) (plain_expr c.in-Lists.hi) c.args.env.now) (list_plan (part_label c.args.s.now.num) element)
    c.in_err-lengths-in-Lists.ensures.valued))

pub draw_inside-returns-in_ok-lengths-in-Lists-clause-drew : goal.draw_inside-returns-in_ok-lengths-in-Lists-clause-drew
draw_inside-returns-in_ok-lengths-in-Lists-clause-drew t c =
    let element = plan_of (plain_strat c.in-Lists.element.value) (self_plan (plain_scope c.args.scope.now)) c.args.env.now in
    at-node c.args.s.now _ (self_plan (plain_scope c.args.scope.now)) c.args.env.now (plain-lists c.args.s.now c.in-Lists.element c.in-Lists.lo c.in-Lists.hi c.in-Lists.is)
    (valued-rest (lengths_of c.args.s.now.at 256 (plain_expr c.in-Lists.lo) (plain_expr c.in-Lists.hi) c.args.env.now) (list_plan (part_label c.args.s.now.num) element)
    c.in_ok-lengths-in-Lists.ensures.valued (rw (c.deref.ensures, c.part_label.ensures) at c.draw_elements.ensures.drew))

pub draw_inside-returns-in-Tuples-clause-drew : goal.draw_inside-returns-in-Tuples-clause-drew
draw_inside-returns-in-Tuples-clause-drew t c =
    let parts : c.as_slice-in-Tuples.result.now ≡ c.in-Tuples.parts = search rules in
    at-node c.args.s.now _ (self_plan (plain_scope c.args.scope.now)) c.args.env.now (plain-tuples c.args.s.now c.in-Tuples.parts c.in-Tuples.is)
    (rw parts at c.draw_parts.ensures.drew)

pub draw_inside-returns-in_err-place-in-OneOf-clause-drew : goal.draw_inside-returns-in_err-place-in-OneOf-clause-drew
draw_inside-returns-in_err-place-in-OneOf-clause-drew t c =
    let gave : c.from_residual-in_err-place-in-OneOf.result ≡ Err c.in_err-place-in-OneOf.field-0.0 = search rules in
    let many : c.len.result ≡ length (strats_in (plain_strats c.in-OneOf.parts)) = c.len.ensures ∙ sym (as-many c.in-OneOf.parts) in
    rw gave (at-node c.args.s.now _ (self_plan (plain_scope c.args.scope.now)) c.args.env.now (plain-one_of c.args.s.now c.in-OneOf.parts c.in-OneOf.is)
    (first-failed (place_plan (length (strats_in (plain_strats c.in-OneOf.parts)))) (member_plan (plain_strats c.in-OneOf.parts) (self_plan (plain_scope c.args.scope.now)) c.args.env.now)
    (rw many at c.in_err-place-in-OneOf.ensures.drew)))

pub draw_inside-returns-in_ok-place-in-OneOf-clause-drew : goal.draw_inside-returns-in_ok-place-in-OneOf-clause-drew
draw_inside-returns-in_ok-place-in-OneOf-clause-drew t c =
    let parts : c.as_slice-in-OneOf.result.now ≡ c.in-OneOf.parts = search rules in
    let many : c.len.result ≡ length (strats_in (plain_strats c.in-OneOf.parts)) = c.len.ensures ∙ sym (as-many c.in-OneOf.parts) in
    at-node c.args.s.now _ (self_plan (plain_scope c.args.scope.now)) c.args.env.now (plain-one_of c.args.s.now c.in-OneOf.parts c.in-OneOf.is)
    (then-rest (place_plan (length (strats_in (plain_strats c.in-OneOf.parts)))) (member_plan (plain_strats c.in-OneOf.parts) (self_plan (plain_scope c.args.scope.now)) c.args.env.now)
    (rw many at c.in_ok-place-in-OneOf.ensures.drew) (rw parts at c.draw_member.ensures.drew))

pub draw_inside-returns-in-Map-clause-drew : goal.draw_inside-returns-in-Map-clause-drew
draw_inside-returns-in-Map-clause-drew t c =
    at-node c.args.s.now _ (self_plan (plain_scope c.args.scope.now)) c.args.env.now (plain-map c.args.s.now c.in-Map.given c.in-Map.inner c.in-Map.body c.in-Map.is)
    (rw c.deref-in-Map.ensures at c.draw_image.ensures.drew)

pub draw_inside-returns-in-Filter-clause-drew : goal.draw_inside-returns-in-Filter-clause-drew
draw_inside-returns-in-Filter-clause-drew t c =
    at-node c.args.s.now _ (self_plan (plain_scope c.args.scope.now)) c.args.env.now (plain-filter c.args.s.now c.in-Filter.given c.in-Filter.inner c.in-Filter.cond c.in-Filter.is)
    (rw (c.deref-in-Filter.ensures, c.part_label-in-Filter.ensures) at c.draw_filtered.ensures.drew)

pub draw_inside-returns-in-FlatMap-clause-drew : goal.draw_inside-returns-in-FlatMap-clause-drew
draw_inside-returns-in-FlatMap-clause-drew t c =
    at-node c.args.s.now _ (self_plan (plain_scope c.args.scope.now)) c.args.env.now (plain-flat_map c.args.s.now c.in-FlatMap.given c.in-FlatMap.inner c.in-FlatMap.second c.in-FlatMap.is)
    (rw (c.deref-in-FlatMap.ensures, c.deref-in-FlatMap-2.ensures) at c.draw_by_value.ensures.drew)

pub draw_inside-returns-in-Recursive-clause-drew : goal.draw_inside-returns-in-Recursive-clause-drew
draw_inside-returns-in-Recursive-clause-drew t c =
    at-node c.args.s.now _ (self_plan (plain_scope c.args.scope.now)) c.args.env.now
    (plain-recursive c.args.s.now c.in-Recursive.depth c.in-Recursive.first c.in-Recursive.second c.in-Recursive.is)
    (rw (c.deref-in-Recursive.ensures, c.deref-in-Recursive-2.ensures) at c.draw_levels.ensures.drew)

pub draw_inside-returns-in-Again-clause-drew : goal.draw_inside-returns-in-Again-clause-drew
draw_inside-returns-in-Again-clause-drew t c =
    at-node c.args.s.now _ (self_plan (plain_scope c.args.scope.now)) c.args.env.now (plain-self c.args.s.now c.in-Again.is) c.draw_self.ensures.drew
