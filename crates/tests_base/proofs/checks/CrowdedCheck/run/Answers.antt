use Rattle.pt_plan.proofs.SaysLemmas.{drew-ran}
use Rattle.tests_base.specs.Checks.{crowded_plan}
use Rattle.tests_base.proofs.checks.CrowdedCheck.run.Goals as goal

pub returns : goal.returns
returns c = rw c.ending_of.ensures (drew-ran (crowded_plan 1025) c.requires c.enters_spans.ensures.settles c.enters_spans.ensures.drew)
