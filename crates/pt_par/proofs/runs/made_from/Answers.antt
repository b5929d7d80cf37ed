use Rattle.pt_case.proofs.RunsLemmas.{runs-push}
use Rattle.pt_par.proofs.runs.made_from.Goals as goal

pub loop-run-preserved : goal.loop-run-preserved
loop-run-preserved g c =
    rw c.in_ok-push.ensures.ok (runs-push _ _ _ _ _ _ c.loop-run.invariant c.in_ok-make.ensures)
