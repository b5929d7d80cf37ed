use Rattle.pt_engine.proofs.AgreeLemmas.{outcome-itself}
use Rattle.pt_engine.proofs.engine.examine.Goals as goal

pub reduce-requires-clause-itself : goal.reduce-requires-clause-itself
reduce-requires-clause-itself g c κs within =
    outcome-itself (g.C.Check.step c.args.check.now) c.args.seed c.args.runs c.args.stored.now c.in_ok-outcome.outcome c.in_ok-outcome.ensures
