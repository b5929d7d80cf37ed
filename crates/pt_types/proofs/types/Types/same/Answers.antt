use Rattle.std.proofs.Common.{subst}
use Rattle.pt_types.specs.Kept.{AreKept}
use Rattle.pt_types.proofs.Kept.{numbers-tell}
use Rattle.pt_types.proofs.types.Types.same.Goals as goal

pub returns : goal.returns
returns c = numbers-tell c.args.self.now c.args.left c.args.right (subst AreKept c.self.view_is c.self.invariant) c.requires.left c.requires.right
