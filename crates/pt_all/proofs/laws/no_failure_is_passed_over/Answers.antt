use Rattle.pt_all.proofs.OnceLemmas.{none-passed-over}
use Rattle.pt_all.proofs.laws.no_failure_is_passed_over.Goals as goal

pub returns : goal.returns
returns g c = none-passed-over (g.C.Check.step c.args.check.now)
