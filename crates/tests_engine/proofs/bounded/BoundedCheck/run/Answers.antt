use Rattle.pt_plan.proofs.SaysLemmas.{drew-ran}
use Rattle.tests_engine.specs.Checks.{bounded_plan}
use Rattle.tests_engine.proofs.bounded.BoundedCheck.run.Goals as goal

pub returns : goal.returns
returns c = rw c.ending_of.ensures (drew-ran (bounded_plan c.args.self.now.bound) c.requires c.draws_bounded.ensures.settles c.draws_bounded.ensures.drew)
