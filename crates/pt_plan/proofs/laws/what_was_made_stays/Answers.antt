use Rattle.pt_plan.proofs.KeptLemmas.{came-made}
use Rattle.pt_plan.proofs.laws.what_was_made_stays.Goals as goal

pub returns : goal.returns
returns g c = came-made
