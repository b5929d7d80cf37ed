use Rattle.pt_plan.proofs.StandsLemmas.{goes_on-new, came-stands}
use Rattle.pt_plan.proofs.laws.what_came_stands.Goals as goal

pub returns : goal.returns
returns g c plan old new outcome is came = came-stands plan plan old new outcome (goes_on-new plan old is) came
