use Rattle.std.proofs.Common.{ℕ, ◌-◌, ◌≤◌, length, map}
use Rattle.pt_ast.specs.Plain.{plain_state}
use Rattle.pt_grammar.specs.Reading.{less_room}
use Rattle.pt_grammar.specs.SuiteReading.{state_at, is_state}
use Rattle.pt_read_items.proofs.Room.{Roomy}
use Rattle.pt_read_items.proofs.machines.read_states.Given as goal

abbrev pub decreases-loop-alloc : goal.decreases-loop-alloc
decreases-loop-alloc l = length l.rest

abbrev pub invariant-loop-alloc : goal.invariant-loop-alloc
invariant-loop-alloc l = record {
  roomy : Roomy (λ (room : ℕ). state_at l.left) is_state less_room (λ room. room) 64 64 l.tokens (map plain_state l.states) (64 - length l.states) l.rest;
  shorter : length l.rest ≤ length l.tokens;
}
