use Rattle.std.proofs.Common.{◌≡◌, ◌+◌, ◌≤◌, [], length, map}
use Rattle.pt_ast.specs.Numbers.{stmts_numbers}
use Rattle.pt_ast.specs.Plain.{plain_stmt}
use Rattle.pt_grammar.specs.SuiteReading.{stmt_at, begins_stmt, next_stmt}
use Rattle.pt_taking.proofs.Rows.{Row}
use Rattle.pt_read_stmts.proofs.stmts.read_stmts.Given as goal

abbrev pub decreases-loop-alloc : goal.decreases-loop-alloc
decreases-loop-alloc l = length l.rest

abbrev pub invariant-loop-alloc : goal.invariant-loop-alloc
invariant-loop-alloc l = record {
  row : Row (stmt_at l.left l.in_rule) (λ from. begins_stmt l.in_rule) next_stmt [] l.from l.tokens (map plain_stmt l.stmts) l.next l.rest;
  numbers : l.next ≡ l.from + length (stmts_numbers (map plain_stmt l.stmts));
  few : l.next + length l.rest ≤ l.from + length l.tokens;
}
