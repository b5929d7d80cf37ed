use Rattle.pt_engine.proofs.OnceLemmas.{outcome-once}
use Rattle.pt_engine.proofs.laws.an_outcome_is_one.Goals as goal

pub returns : goal.returns
returns g c = outcome-once (g.C.Check.step c.args.check.now)
