use Rattle.std.proofs.lemmas.Bool.Decides.{same_from_decides}
use Rattle.pt_eval.proofs.SameLaws.{same-value-decides}
use Rattle.pt_eval.proofs.comparing.is_same.Goals as goal

pub returns : goal.returns
returns c = same_from_decides _ _ c.same.ensures (same-value-decides c.args.left.now c.args.right.now)
