use Rattle.pt_plan.proofs.SaysLemmas.{drew-ran}
use Rattle.tests_engine.specs.Checks.{never_plan}
use Rattle.tests_engine.proofs.never.NeverCheck.run.Goals as goal

pub returns : goal.returns
returns c = rw c.ending_of.ensures (drew-ran never_plan c.requires c.draws_flag.ensures.settles c.draws_flag.ensures.drew)
