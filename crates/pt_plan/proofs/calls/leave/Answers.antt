use Rattle.std.proofs.Common.{[]}
use Rattle.pt_plan.proofs.OpenLemmas.{some-open, open-left}
use Rattle.pt_plan.proofs.calls.leave.Goals as goal

pub leave-requires : goal.leave-requires
leave-requires c = some-open c.args.case.now.regions c.requires

pub returns-clause-closed : goal.returns-clause-closed
returns-clause-closed c = rw c.leave.ensures (open-left _ 0 c.args.case.now.regions [] (some-open c.args.case.now.regions c.requires))
