use Rattle.pt_plan.proofs.SaysLemmas.{drew-ran}
use Rattle.tests_base.specs.Checks.{noted_plan}
use Rattle.tests_base.proofs.checks.NotedCheck.run.Goals as goal

pub returns : goal.returns
returns c = rw c.ending_of.ensures (drew-ran (noted_plan c.args.self.now.name) c.requires c.draws_between_notes.ensures.settles c.draws_between_notes.ensures.drew)
