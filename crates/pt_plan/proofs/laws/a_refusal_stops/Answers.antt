use Rattle.pt_plan.proofs.KeptLemmas.{came-stopped}
use Rattle.pt_plan.proofs.laws.a_refusal_stops.Goals as goal

pub returns : goal.returns
returns g c = came-stopped
