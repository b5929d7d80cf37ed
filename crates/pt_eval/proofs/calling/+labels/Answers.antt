use mir.Syntax.{w64}
use mir.Val.{to_z, of_z}
use Rattle.std.proofs.Common.{◌≡◌, ℤ, List, subst, rules}
use Rattle.std.specs.Prelude.{OnOk}
use Rattle.pt_val.specs.declared.val.Val.{Val}
use Rattle.pt_val.specs.declared.val.Val.TheVariants as val
use Rattle.pt_eval.proofs.LabelLemmas.{labels-behind}
use Rattle.pt_eval.proofs.calling.+labels.Goals as goal

pub add_labels-returns-in_ok-push-in-Node : goal.add_labels-returns-in_ok-push-in-Node
add_labels-returns-in_ok-push-in-Node t c =
    let label : ℤ = to_z w64 (of_z w64 c.in-Node.label) in
    let is : c.args.tree.now ≡ val.Node label c.in-Node.children = search rules in
    let P : List Val → Type 0 = λ labels. OnOk c.add_all_labels.result (c.add_all_labels.new.labels ≡ labels) in
    subst P (labels-behind c.args.tree.now label c.in-Node.children c.args.labels.now c.push.new.self is c.in_ok-push-in-Node.ensures.ok)
    (rw c.as_slice.ensures at c.add_all_labels.ensures)
