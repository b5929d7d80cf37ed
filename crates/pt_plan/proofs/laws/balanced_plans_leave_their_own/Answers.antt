use Rattle.pt_plan.proofs.EveryLemmas.{balanced-keeps, balanced-returns, returns-open}
use Rattle.pt_plan.proofs.laws.balanced_plans_leave_their_own.Goals as goal

pub returns-clause-kept : goal.returns-clause-kept
returns-clause-kept g c = balanced-keeps

pub returns-clause-returned : goal.returns-clause-returned
returns-clause-returned g c = balanced-returns

pub returns-clause-open : goal.returns-clause-open
returns-clause-open g c = returns-open
