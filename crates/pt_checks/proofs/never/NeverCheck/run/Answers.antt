use Rattle.pt_plan.proofs.SaysLemmas.{drew-ran}
use Rattle.pt_checks.specs.Checks.{never_plan}
use Rattle.pt_checks.proofs.never.NeverCheck.run.Goals as goal

pub returns : goal.returns
returns c = rw c.ending_of.ensures (drew-ran never_plan c.requires c.draws_one.ensures.settles c.draws_one.ensures.drew)
