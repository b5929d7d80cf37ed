use Rattle.std.proofs.Common.{◌≡◌, rules}
use Rattle.pt_types.specs.Kept.{base_shapes}
use Rattle.pt_types.proofs.Kept.{kept-base}
use Rattle.pt_types.proofs.types.Types.base.Goals as goal

pub invariant_of-result : goal.invariant_of-result
invariant_of-result c =
    let is : c.insert-6.new.self.keys ≡ base_shapes = search rules in
    kept-base c.insert-6.new.self.keys is c.in_ok-insert-6.ensures.unique
