use Rattle.pt_found.proofs.VainLemmas.{leads-vain}
use Rattle.pt_found.proofs.laws.tried_all_is_minimal.Goals as goal

pub returns : goal.returns
returns g c = λ budget first best trail legal all list candidate.
    leads-vain (g.C.Check.step c.args.check.now) first trail legal.strangers best legal.leads list (all list candidate)
