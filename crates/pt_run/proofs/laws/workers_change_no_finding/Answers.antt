use Rattle.pt_run.proofs.Items.{own_distinct}
use Rattle.pt_run.proofs.Workers.{runs_agree}
use Rattle.pt_run.proofs.laws.workers_change_no_finding.Goals as goal

pub returns : goal.returns
returns g c =
    runs_agree g.C.Check.name g.C.Check.step c.args.checks.now c.one_suite.ensures c.workers_change_no_finding.ensures.run

pub workers_change_no_finding-requires-after_bounds :
    goal.workers_change_no_finding-requires-after_bounds
workers_change_no_finding-requires-after_bounds g c κs within = own_distinct g.C.Check.name c.args.checks.now c.requires
