use Rattle.pt_plan.proofs.SaysLemmas.{drew-ran}
use Rattle.tests_base.specs.Checks.{nested_plan}
use Rattle.tests_base.proofs.checks.NestedCheck.run.Goals as goal

pub returns : goal.returns
returns c = rw c.ending_of.ensures (drew-ran nested_plan c.requires c.draws_nested.ensures.settles c.draws_nested.ensures.drew)
