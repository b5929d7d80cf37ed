use Rattle.std.proofs.Common.{ℕ, ◌-◌, ◌≤◌, length, map}
use Rattle.pt_ast.specs.Plain.{plain_bundle}
use Rattle.pt_grammar.specs.Reading.{less_room}
use Rattle.pt_grammar.specs.SuiteReading.{bundle_at, is_bundle}
use Rattle.pt_read_items.proofs.Room.{Roomy}
use Rattle.pt_read_items.proofs.machines.read_bundles.Given as goal

abbrev pub decreases-loop-alloc : goal.decreases-loop-alloc
decreases-loop-alloc l = length l.rest

abbrev pub invariant-loop-alloc : goal.invariant-loop-alloc
invariant-loop-alloc l = record {
  roomy : Roomy (λ (room : ℕ). bundle_at l.left) is_bundle less_room (λ room. room) 64 64 l.tokens (map plain_bundle l.bundles) (64 - length l.bundles) l.rest;
  shorter : length l.rest ≤ length l.tokens;
}
