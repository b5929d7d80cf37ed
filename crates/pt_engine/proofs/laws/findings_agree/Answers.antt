use Rattle.pt_engine.proofs.AgreeLemmas.{findings-agree}
use Rattle.pt_engine.proofs.laws.findings_agree.Goals as goal

pub returns : goal.returns
returns g c = findings-agree (g.C.Check.step c.args.check.now)
