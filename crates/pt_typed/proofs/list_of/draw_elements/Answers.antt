use Rattle.std.proofs.Common.{◌≡◌, ◌<◌, ◌≤◌, ℕ, suc, ◌-◌, ◌+◌, [], ◌∷◌, map, length, Err, refl, arith, rules, sym, ◌∙◌, length-append}
use Rattle.std.proofs.lemmas.List.{length-map, map-append}
use Rattle.pt_plan.proofs.DrewLemmas.{leads-new}
use Rattle.pt_typed.proofs.ListLemmas.{elements-full, elements-failed, elements-ended, elements-grown}
use Rattle.pt_typed.proofs.list_of.draw_elements.Goals as goal

-- where there are fewer than the most, there is room for one more
one-more : (room count most : ℕ) → room + count ≡ most → count < most → room ≡ suc (room - 1)
one-more room count most sum few = omega (arith, sum, few)

pub growing-init : goal.growing-init
growing-init g c = rw c.new-elements.ensures.items (c.args.max, omega arith, leads-new _ _, refl)

pub returns-in_err-element-clause-drew : goal.returns-in_err-element-clause-drew
returns-in_err-element-clause-drew g c =
    let room = c.growing.invariant.0 in
    let few : length c.growing.elements.items < c.args.max = search rules in
    let counted : c.len-in-growing.result ≡ length c.growing.elements.items = search rules in
    let gave : c.from_residual.result ≡ Err c.in_err-element.field-0.0 = search rules in
    rw gave (elements-failed (g.S.Strategy.plan c.args.inner.now) c.args.min room (room - 1) c.len-in-growing.result
    (map g.S.Value.ToVal.val c.growing.elements.items) (one-more room _ _ c.growing.invariant.1 few)
    (counted ∙ sym (length-map c.growing.elements.items g.S.Value.ToVal.val)) c.growing.invariant.2 c.in_err-element.ensures.drew)

pub growing-preserved : goal.growing-preserved
growing-preserved g c =
    let room = c.growing.invariant.0 in
    let few : length c.growing.elements.items < c.args.max = search rules in
    let counted : c.len-in-growing.result ≡ length c.growing.elements.items = search rules in
    let one = one-more room (length c.growing.elements.items) c.args.max c.growing.invariant.1 few in
    let longer = length-append c.growing.elements.items (c.in-Some.element ∷ []) in
    let way = elements-grown (g.S.Strategy.plan c.args.inner.now) c.args.min room (room - 1) c.len-in-growing.result
    (map g.S.Value.ToVal.val c.growing.elements.items) one
    (counted ∙ sym (length-map c.growing.elements.items g.S.Value.ToVal.val)) c.growing.invariant.2 (g.S.Value.ToVal.val c.in-Some.element)
    (rw c.in-Some.is at c.in_ok-element.ensures.drew) in
    rw (c.in_ok-grow-in-Some.ensures, map-append g.S.Value.ToVal.val c.growing.elements.items (c.in-Some.element ∷ []))
    (room - 1, omega (arith, one, longer, c.growing.invariant.1), way, c.in_ok-element.ensures.closed ∙ c.growing.invariant.3)

pub returns-in-None-clause-drew : goal.returns-in-None-clause-drew
returns-in-None-clause-drew g c =
    let room = c.growing.invariant.0 in
    let few : length c.growing.elements.items < c.args.max = search rules in
    let counted : c.len-in-growing.result ≡ length c.growing.elements.items = search rules in
    elements-ended (g.S.Strategy.plan c.args.inner.now) c.args.min room (room - 1) c.len-in-growing.result
    (map g.S.Value.ToVal.val c.growing.elements.items) (one-more room _ _ c.growing.invariant.1 few)
    (counted ∙ sym (length-map c.growing.elements.items g.S.Value.ToVal.val)) c.growing.invariant.2 (rw c.in-None.is at c.in_ok-element.ensures.drew)

pub returns-clause-drew : goal.returns-clause-drew
returns-clause-drew g c =
    let room = c.growing.invariant.0 in
    let full : c.args.max ≤ length c.growing.elements.items = search rules in
    elements-full (g.S.Strategy.plan c.args.inner.now) c.args.min room (map g.S.Value.ToVal.val c.growing.elements.items)
    (omega (arith, full, c.growing.invariant.1)) c.growing.invariant.2
