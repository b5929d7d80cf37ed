use Rattle.std.proofs.Common.{◌≡◌, ◌-◌, ◌+◌, ◌≤◌, length, map}
use Rattle.std.specs.List.{flat_map}
use Rattle.pt_ast.specs.Numbers.{stmts_numbers}
use Rattle.pt_ast.specs.Plain.{plain_rule}
use Rattle.pt_grammar.specs.SuiteReading.{rule_at, is_rule, next_rule}
use Rattle.pt_read_items.proofs.Room.{Roomy}
use Rattle.pt_read_items.proofs.machines.read_rules.Given as goal

abbrev pub decreases-loop-alloc : goal.decreases-loop-alloc
decreases-loop-alloc l = length l.rest

abbrev pub invariant-loop-alloc : goal.invariant-loop-alloc
invariant-loop-alloc l = record {
  roomy : Roomy (λ given. rule_at l.left given.1) is_rule next_rule (λ given. given.0) 64 (64, l.from) l.tokens (map plain_rule l.rules) (64 - length l.rules, l.next) l.rest;
  numbers : l.next ≡ l.from + length (flat_map (λ rule. stmts_numbers rule.stmts) (map plain_rule l.rules));
  few : l.next + length l.rest ≤ l.from + length l.tokens;
}
