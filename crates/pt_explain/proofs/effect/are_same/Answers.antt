use Rattle.pt_choice.proofs.SameLemmas.{same_choice-decides}
use Rattle.pt_explain.proofs.effect.are_same.Goals as goal

pub returns : goal.returns
returns c = let d = same_choice-decides c.args.one.now c.args.other.now in let e = c.eq.ensures in rw e d
