use Rattle.std.proofs.Common.{◌≡◌, ℕ, Some, ◌∙◌, ap, below_more, arith}
use Rattle.std.specs.Prelude.{◌≢◌, slice_get}
use Rattle.std.proofs.lemmas.Option.{get_or_from_slice_get}
use Rattle.pt_ast.specs.declared.suite.Item.{Item}
use Rattle.pt_ast.specs.Trees.{ItemTree}
use Rattle.pt_run.proofs.Items.{has_tree, of_tree}
use Rattle.pt_run.proofs.showing.named.Goals as goal

pub returns-then-is_named : goal.returns-then-is_named
returns-then-is_named c =
    (has_tree c.args.items.now c.loop-item.item-index c.item-item.result c.loop-item-test.true c.item-item.is, c.is_named.ensures.0 c.if-is_named.true)

pub loop-item-preserved : goal.loop-item-preserved
loop-item-preserved c place item within is named =
    let items = c.args.items.now in
    let NotNamed = λ (k : ℕ). (item : Item) → slice_get items k ≡ Some item → item.name.name ≢ c.args.wanted.now in
    below_more NotNamed c.loop-item.item-index
    (λ k below item is. c.loop-item.invariant k item below is)
    (λ item is named.
    let this = c.item-item.is ∙ get_or_from_slice_get items c.loop-item.item-index item c.item-item.result is in
    let here = c.is_named.ensures.1 (ap (λ (i : Item). i.name.name) this ∙ named) in
    cc)
    place within item is named

pub returns : goal.returns
returns c tree has named =
    let found = of_tree c.args.items.now tree has in
    c.loop-item.invariant found.0 found.1 (omega (arith, found.2, c.loop-item-test.false)) found.3 (ap (λ (t : ItemTree). t.name.name) found.4 ∙ named)
