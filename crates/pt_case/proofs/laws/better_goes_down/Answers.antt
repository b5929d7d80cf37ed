use Rattle.pt_case.proofs.BetterLemmas.{no_better-below}
use Rattle.pt_case.proofs.laws.better_goes_down.Goals as goal

pub returns : goal.returns
returns g c = no_better-below (g.C.Check.step c.args.check.now)
