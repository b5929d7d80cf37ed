use Rattle.pt_run.proofs.Completeness.{done}
use Rattle.pt_run.proofs.laws.what_can_be_done_is_done.Goals as goal

pub returns : goal.returns
returns g c =
    done g.C.Check.name g.C.Check.step c.args.checks.now c.one_suite.ensures c.suite_or_fault.ensures.not_both c.suites_are_decided.ensures
