use Rattle.pt_all.proofs.OnceLemmas.{surveys-agree}
use Rattle.pt_all.proofs.laws.surveys_agree.Goals as goal

pub returns : goal.returns
returns g c = surveys-agree (g.C.Check.step c.args.check.now)
