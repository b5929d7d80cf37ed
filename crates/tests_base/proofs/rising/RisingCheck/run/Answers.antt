use Rattle.pt_plan.proofs.SaysLemmas.{drew-ran}
use Rattle.tests_base.specs.Checks.{rising_plan}
use Rattle.tests_base.proofs.rising.RisingCheck.run.Goals as goal

pub returns : goal.returns
returns c = rw c.ending_of.ensures (drew-ran (rising_plan c.args.self.now.name) c.requires c.draws_rising.ensures.settles c.draws_rising.ensures.drew)
