use Rattle.std.proofs.Common.{◌≡◌, subst}
use Rattle.pt_types.specs.Kept.{type_of, tree_of, trees_of, IsWithin}
use Rattle.pt_types.proofs.Kept.{shape-at}
use Rattle.pt_types.proofs.types.Types.shape.Goals as goal

pub returns-clause-shape : goal.returns-clause-shape
returns-clause-shape c =
    subst (λ shapes. type_of shapes c.args.number ≡ tree_of (trees_of shapes) c.index.result.now) c.self.view_is
    (shape-at c.self.inside.shapes.keys c.args.number c.index.result.now c.self.invariant c.index.ensures).0

pub returns-clause-within : goal.returns-clause-within
returns-clause-within c =
    subst (λ shapes. IsWithin (trees_of shapes) c.index.result.now) c.self.view_is
    (shape-at c.self.inside.shapes.keys c.args.number c.index.result.now c.self.invariant c.index.ensures).1
