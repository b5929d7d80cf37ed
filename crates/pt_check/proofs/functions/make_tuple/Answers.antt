use Rattle.std.proofs.Common.{◌∷◌, refl, sym, ap, ◌∙◌}
use Rattle.pt_ast.specs.Types.{Int_type, Tuple_type, no_type, more_type}
use Rattle.pt_check.specs.Stacks.{newest, behind}
use Rattle.pt_check.specs.Known.{top, with_held, joined, parts_held}
use Rattle.pt_check.proofs.Tuples.{held-step, held-last}
use Rattle.pt_check.proofs.functions.make_tuple.Goals as goal

pub loop-left-init : goal.loop-left-init
loop-left-init c = (no_type, c.args.checker.now.held, c.in_ok-hold_empty.ensures, refl, refl)

pub join-requires : goal.join-requires
join-requires c = let so = c.loop-left.invariant in (so.0, ap top so.2)

pub loop-left-preserved : goal.loop-left-preserved
loop-left-preserved c =
    let so = c.loop-left.invariant in
    let step = held-step c.loop-left.left so.1 so.0 c.loop-left-test.true in
    (more_type (newest Int_type so.1) so.0, behind so.1, c.in_ok-join.ensures ∙ ap joined so.2, so.3 ∙ step.0, so.4 ∙ step.1)

pub returns : goal.returns
returns c =
    let so = c.loop-left.invariant in
    let old = c.args.checker.now in
    let last = held-last c.loop-left.left so.1 so.0 c.loop-left-test.false in
    so.2 ∙ ap (λ types. with_held old (Tuple_type types ∷ so.1)) (sym (so.3 ∙ last.0))
    ∙ ap (λ rest. with_held old (Tuple_type (parts_held c.args.parts old.held no_type) ∷ rest)) (sym (so.4 ∙ last.1))
