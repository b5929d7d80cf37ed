use Rattle.std.proofs.Common.{subst}
use Rattle.pt_types.specs.declared.shape.Shape.TheVariants as shape
use Rattle.pt_types.specs.Kept.{Keeps, trees_of, tree_of}
use Rattle.pt_types.proofs.Kept.{within-trees, kept-after, keeps-after}
use Rattle.pt_types.proofs.types.Types.list_of.Goals as goal

pub invariant_of-self-2 : goal.invariant_of-self-2
invariant_of-self-2 c =
    kept-after c.self.inside.shapes.keys c.insert_full.new.self.keys (shape.List c.args.member) _ c.self.invariant
    (within-trees c.self.inside.shapes.keys c.args.member (rw c.self.view_is c.requires)) c.in_ok-number.ensures.keys c.in_ok-number.ensures.unique

pub returns-clause-keeps : goal.returns-clause-keeps
returns-clause-keeps c =
    subst (λ old. Keeps c.insert_full.new.self.keys c.in_ok-number.number (tree_of (trees_of old) (shape.List c.args.member))) c.self.view_is
    (keeps-after c.self.inside.shapes.keys c.insert_full.new.self.keys (shape.List c.args.member) c.in_ok-number.number _ c.self.invariant
    (within-trees c.self.inside.shapes.keys c.args.member (rw c.self.view_is c.requires)) c.in_ok-number.ensures.keys c.in_ok-number.ensures.unique c.in_ok-number.ensures.stored)
