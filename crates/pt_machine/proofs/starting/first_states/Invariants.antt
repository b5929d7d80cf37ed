use Rattle.std.proofs.Common.{◌≡◌, [], drop, map}
use Rattle.pt_ast.specs.Plain.{plain_state}
use Rattle.pt_machine.specs.World.{states_from}
use Rattle.pt_machine.proofs.starting.first_states.Given as goal

-- the states that are left are still to begin
abbrev pub invariant-loop-state : goal.invariant-loop-state
invariant-loop-state l = states_from (map plain_state l.states) [] ≡ states_from (map plain_state (drop l.state-index l.states)) l.env
