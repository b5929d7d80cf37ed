use Rattle.std.proofs.Common.{◌≡◌, ℕ, ◌∷◌, Result, Ok, Err, length, refl}
use Rattle.std.specs.Prelude.{OnOk}
use Rattle.pt_case.specs.declared.stop.Stop.{Stop}
use Rattle.pt_case.specs.State.{State, Entered}
use Rattle.pt_plan.specs.Open.{open_spans}
use Rattle.pt_plan.proofs.OpenLemmas.{open-entered}
use Rattle.pt_plan.proofs.calls.enter.Goals as goal

opens : (result : Result (Unit {0}) Stop) (old new : State) (label : ℕ) → OnOk result (Entered old label new) →
    OnOk result (open_spans new ≡ length old.regions ∷ open_spans old)
opens (Ok u) old new label entered = rw entered.kept (open-entered old.regions _ refl)
opens (Err why) old new label entered = tt

pub returns-clause-entered : goal.returns-clause-entered
returns-clause-entered c = opens c.enter.result c.args.case.now c.enter.new.self _ c.enter.ensures.entered
