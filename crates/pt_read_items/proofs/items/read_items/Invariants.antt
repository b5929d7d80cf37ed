use Rattle.std.proofs.Common.{◌-◌, ◌+◌, ◌≤◌, length, map}
use Rattle.pt_ast.specs.Plain.{plain_item}
use Rattle.pt_grammar.specs.SuiteReading.{item_at, begins_item, next_item}
use Rattle.pt_read_items.proofs.Room.{Roomy}
use Rattle.pt_read_items.proofs.items.read_items.Given as goal

abbrev pub decreases-loop-alloc : goal.decreases-loop-alloc
decreases-loop-alloc l = length l.rest

abbrev pub invariant-loop-alloc : goal.invariant-loop-alloc
invariant-loop-alloc l = record {
  roomy : Roomy (λ given. item_at given.1) begins_item next_item (λ given. given.0) 200 (200, 0) l.tokens (map plain_item l.items) (200 - length l.items, l.next) l.rest;
  few : l.next + length l.rest ≤ length l.tokens;
}
