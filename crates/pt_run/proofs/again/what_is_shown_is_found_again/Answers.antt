use Rattle.pt_run.proofs.SecondRuns.{found_again}
use Rattle.pt_run.proofs.Items.{own_distinct}
use Rattle.pt_run.proofs.again.what_is_shown_is_found_again.Goals as goal

pub returns : goal.returns
returns g c =
    found_again g.C.Check.name g.C.Check.step c.args.checks.now c.one_suite.ensures c.what_is_shown_is_found_again.ensures

pub what_is_shown_is_found_again-requires-after_bounds :
    goal.what_is_shown_is_found_again-requires-after_bounds
what_is_shown_is_found_again-requires-after_bounds g c κs within = own_distinct g.C.Check.name c.args.checks.now c.requires
