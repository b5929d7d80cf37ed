use Rattle.std.proofs.Common.{◌∙◌, sym, ap, get_or}
use Rattle.std.specs.declared.cmp.Ordering.TheVariants.{Less, Greater}
use Rattle.std.specs.Ordering.{is_lt}
use Rattle.pt_choice.specs.Order.{cmp_choice}
use Rattle.pt_cand.proofs.SwapLemmas.{lower-decides, lower-tied}
use Rattle.pt_cand.proofs.swap_siblings.is_lower.Goals as goal

pub returns-in-Less : goal.returns-in-Less
returns-in-Less c =
    let d = c.index-choices-at.result in
    let here = ap (λ x. cmp_choice x (get_or c.args.choices.now c.loop-at.at d)) (sym (c.moved_to.ensures d))
    ∙ ap (λ y. cmp_choice c.moved_to.result.now y) (sym c.index-choices-at.is) ∙ sym c.cmp_choice.ensures ∙ c.in-Less.is in
    sym (ap is_lt (lower-decides c.args.choices.now c.args.one c.args.other c.requires c.loop-at.at d c.loop-at-test.true c.loop-at.invariant Less here))

pub returns-in-Greater : goal.returns-in-Greater
returns-in-Greater c =
    let d = c.index-choices-at.result in
    let here = ap (λ x. cmp_choice x (get_or c.args.choices.now c.loop-at.at d)) (sym (c.moved_to.ensures d))
    ∙ ap (λ y. cmp_choice c.moved_to.result.now y) (sym c.index-choices-at.is) ∙ sym c.cmp_choice.ensures ∙ c.in-Greater.is in
    sym (ap is_lt (lower-decides c.args.choices.now c.args.one c.args.other c.requires c.loop-at.at d c.loop-at-test.true c.loop-at.invariant Greater here))

pub loop-at-preserved : goal.loop-at-preserved
loop-at-preserved c =
    let d = c.index-choices-at.result in
    let here = ap (λ x. cmp_choice x (get_or c.args.choices.now c.loop-at.at d)) (sym (c.moved_to.ensures d))
    ∙ ap (λ y. cmp_choice c.moved_to.result.now y) (sym c.index-choices-at.is) ∙ sym c.cmp_choice.ensures ∙ c.in-Equal.is in
    lower-tied c.args.choices.now c.args.one c.args.other c.requires c.loop-at.at d c.loop-at-test.true c.loop-at.invariant here
