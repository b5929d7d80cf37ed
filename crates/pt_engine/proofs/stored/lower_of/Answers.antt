use Rattle.std.proofs.Common.{rules}
use Rattle.pt_engine.proofs.LeastLemmas.{least-lower, least-kept}
use Rattle.pt_engine.proofs.stored.lower_of.Goals as goal

pub returns-then-eq : goal.returns-then-eq
returns-then-eq c records is failed = least-lower records c.args.best c.args.rec is failed (search rules)

pub returns-else-eq : goal.returns-else-eq
returns-else-eq c records is failed = least-kept records c.args.best c.args.rec is (search rules)
