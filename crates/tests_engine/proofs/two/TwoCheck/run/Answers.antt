use Rattle.std.proofs.Common.{pos}
use Rattle.pt_plan.proofs.SaysLemmas.{drew-ran}
use Rattle.tests_engine.specs.Checks.{two_plan}
use Rattle.tests_engine.proofs.two.TwoCheck.run.Goals as goal

pub returns : goal.returns
returns c = rw c.ending_of.ensures (drew-ran (two_plan (pos 100) c.args.self.now.judge) c.requires c.draws_two.ensures.settles c.draws_two.ensures.drew)
