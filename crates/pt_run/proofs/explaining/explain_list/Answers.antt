use Rattle.pt_run.proofs.Marks.{tellable}
use Rattle.pt_run.proofs.explaining.explain_list.Goals as goal

pub returns-clause-tellable : goal.returns-clause-tellable
returns-clause-tellable g c = tellable (g.C.Check.step c.args.check.now) c.in_ok-rec.rec c.in_ok-explained.explained c.in_ok-explained.ensures.marks
