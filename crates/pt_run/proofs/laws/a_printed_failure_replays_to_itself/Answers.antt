use Rattle.pt_run.proofs.Replaying.{replays}
use Rattle.pt_run.proofs.laws.a_printed_failure_replays_to_itself.Goals as goal

pub returns : goal.returns
returns g c =
    replays g.C.Check.name g.C.Check.step c.args.checks.now c.one_suite.ensures c.suite_or_fault.ensures.not_both c.suites_are_decided.ensures
