use Rattle.std.proofs.Common.{◌≡◌, map, drop}
use Rattle.pt_ast.specs.Plain.{plain_state}
use Rattle.pt_typing.specs.SuiteChecks.{declared}
use Rattle.pt_check.specs.Known.{with_scope, with_states}
use Rattle.pt_check.proofs.machines.check_states.Given as goal

-- the states so far lead to these names
abbrev pub invariant-loop-state : goal.invariant-loop-state
invariant-loop-state l = (l.checker ≡ with_states (with_scope l.fn.checker l.checker.scope) l.checker.scope)
    × (declared l.fn.checker.scope (map plain_state l.states) ≡ declared l.checker.scope (map plain_state (drop l.state-index l.states)))
