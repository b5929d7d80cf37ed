use Rattle.pt_plan.proofs.SaysLemmas.{drew-ran}
use Rattle.tests_engine.specs.Checks.{tail_plan}
use Rattle.tests_engine.proofs.tail.TailCheck.run.Goals as goal

pub returns : goal.returns
returns c = rw c.ending_of.ensures (drew-ran tail_plan c.requires c.draws_tail.ensures.settles c.draws_tail.ensures.drew)
