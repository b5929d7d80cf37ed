use Rattle.pt_plan.proofs.SaysLemmas.{drew-ran}
use Rattle.tests_program.specs.Samples.{noting_plan}
use Rattle.tests_program.proofs.samples.NotingCheck.run.Goals as goal

pub returns : goal.returns
returns c =
    rw c.ending_of.ensures (drew-ran (noting_plan c.args.self.now.name) c.requires c.notes_and_fails.ensures.settles c.notes_and_fails.ensures.drew)
