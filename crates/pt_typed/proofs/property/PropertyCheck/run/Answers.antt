use Rattle.pt_plan.proofs.SaysLemmas.{drew-ran}
use Rattle.pt_typed.specs.Property.{property_plan}
use Rattle.pt_typed.proofs.property.PropertyCheck.run.Goals as goal

pub returns : goal.returns
returns g c =
    rw c.ending_of.ensures (drew-ran (property_plan (g.S.Strategy.plan c.args.self.now.inner) (g.F.Judge.verdict c.args.self.now.judge)) c.requires
    c.judged.ensures.settles c.judged.ensures.drew)
