use Rattle.pt_plan.proofs.SaysLemmas.{says-plan}
use Rattle.pt_plan.proofs.laws.a_list_has_one_answer.Goals as goal

pub returns : goal.returns
returns c = says-plan
