use Rattle.std.proofs.Common.{map}
use Rattle.pt_ast.specs.Plain.{plain_stmt}
use Rattle.pt_plan.proofs.SaysLemmas.{drew-ran}
use Rattle.pt_prop.specs.Property.{property_plan}
use Rattle.pt_prop.proofs.property.PropertyCheckCheck.run.Goals as goal

pub returns : goal.returns
returns c =
    rw c.ending_of.ensures (drew-ran (property_plan (map plain_stmt c.args.self.now.stmts.now)) c.requires c.run_body.ensures.settles c.run_body.ensures.drew)
