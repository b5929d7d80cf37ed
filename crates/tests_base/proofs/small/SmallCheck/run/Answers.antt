use Rattle.pt_plan.proofs.SaysLemmas.{drew-ran}
use Rattle.tests_base.specs.Checks.{small_plan}
use Rattle.tests_base.proofs.small.SmallCheck.run.Goals as goal

pub returns : goal.returns
returns c = rw c.ending_of.ensures (drew-ran small_plan c.requires c.draws_small.ensures.settles c.draws_small.ensures.drew)
