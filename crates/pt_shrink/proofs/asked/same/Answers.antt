use Rattle.pt_shrink.proofs.AskedLemmas.{same-decides}
use Rattle.pt_shrink.proofs.asked.same.Goals as goal

pub returns : goal.returns
returns c = let d = same-decides c.args.one.now c.args.other.now in let e = c.eq.ensures in let s = c.cmp_choice.ensures in rw e (rw s d)
