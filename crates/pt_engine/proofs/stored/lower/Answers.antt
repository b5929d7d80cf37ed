use Rattle.std.proofs.Common.{rules, subst}
use Rattle.pt_engine.specs.Progress.{IsLeastOf}
use Rattle.pt_engine.proofs.LeastLemmas.{least-passed, least-first}
use Rattle.pt_engine.proofs.stored.lower.Goals as goal

pub returns-then-not-is_failure : goal.returns-then-not-is_failure
returns-then-not-is_failure c records is = least-passed records c.args.rec c.args.least is (search rules)

pub returns-in-None : goal.returns-in-None
returns-in-None c records is = least-first records c.args.rec (subst (IsLeastOf records) c.in-None.is is) (search rules)

pub returns-in-Some : goal.returns-in-Some
returns-in-Some c records is = c.lower_of.ensures records (subst (IsLeastOf records) c.in-Some.is is) (search rules)
