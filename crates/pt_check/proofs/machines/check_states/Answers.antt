use Rattle.std.proofs.Common.{◌+◌, map, drop, ◌∙◌, ap, arith}
use Rattle.pt_ast.specs.Plain.{plain_state}
use Rattle.pt_typing.specs.Steps.{after}
use Rattle.pt_typing.specs.SuiteChecks.{declared}
use Rattle.pt_check.specs.Known.{with_scope, with_states}
use Rattle.pt_check.proofs.MachineTurns.{state-turn}
use Rattle.pt_check.proofs.machines.check_states.Goals as goal

pub loop-state-preserved : goal.loop-state-preserved
loop-state-preserved c =
    let so = c.loop-state.invariant in
    let new = c.check_state.new.checker in
    let states = c.args.states.now in (
      c.in_ok-check_state.ensures.same ∙ ap (λ k. with_states (with_scope k new.scope) new.scope) so.0,
      so.1 ∙ state-turn c.loop-state.checker.scope states c.loop-state.state-index c.state-item.result (omega arith) c.state-item.is
          ∙ ap (λ r. after r (λ s. declared s (map plain_state (drop (c.loop-state.state-index + 1) states)))) c.in_ok-check_state.ensures.says,
    )
