use Rattle.pt_plan.proofs.EveryLemmas.{silent-came}
use Rattle.pt_plan.proofs.laws.silent_plans_leave_the_notes.Goals as goal

pub returns : goal.returns
returns g c = silent-came
