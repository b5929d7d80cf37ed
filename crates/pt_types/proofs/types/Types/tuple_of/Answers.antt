use Rattle.std.proofs.Common.{subst, sym}
use Rattle.pt_types.specs.declared.shape.Shape.TheVariants as shape
use Rattle.pt_types.specs.Kept.{Keeps, IsWithin, trees_of, tree_of}
use Rattle.pt_types.proofs.Kept.{within-trees, kept-after, keeps-after}
use Rattle.pt_types.proofs.types.Types.tuple_of.Goals as goal

pub invariant_of-self-2 : goal.invariant_of-self-2
invariant_of-self-2 c =
    let one = shape.Tuple c.args.first c.args.behind in
    let within = subst (λ old. IsWithin (trees_of old) one) (sym c.self.view_is)
    (within-trees c.args.self.now c.args.first c.requires.first, within-trees c.args.self.now c.args.behind c.requires.behind, c.requires.tuple) in
    kept-after c.self.inside.shapes.keys c.insert_full.new.self.keys one _ c.self.invariant within c.in_ok-number.ensures.keys c.in_ok-number.ensures.unique

pub returns-clause-keeps : goal.returns-clause-keeps
returns-clause-keeps c =
    let one = shape.Tuple c.args.first c.args.behind in
    let within = subst (λ old. IsWithin (trees_of old) one) (sym c.self.view_is)
    (within-trees c.args.self.now c.args.first c.requires.first, within-trees c.args.self.now c.args.behind c.requires.behind, c.requires.tuple) in
    subst (λ old. Keeps c.insert_full.new.self.keys c.in_ok-number.number (tree_of (trees_of old) one)) c.self.view_is
    (keeps-after c.self.inside.shapes.keys c.insert_full.new.self.keys one c.in_ok-number.number _ c.self.invariant
    within c.in_ok-number.ensures.keys c.in_ok-number.ensures.unique c.in_ok-number.ensures.stored)
