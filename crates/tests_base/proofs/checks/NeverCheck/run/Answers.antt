use Rattle.pt_plan.proofs.SaysLemmas.{drew-ran}
use Rattle.tests_base.specs.Checks.{never_plan}
use Rattle.tests_base.proofs.checks.NeverCheck.run.Goals as goal

pub returns : goal.returns
returns c = rw c.ending_of.ensures (drew-ran never_plan c.requires c.draws_one.ensures.settles c.draws_one.ensures.drew)
