use Rattle.std.proofs.Common.{◌≡◌, ◌+◌, ◌*◌, ◌≤◌, length, map}
use Rattle.pt_ast.specs.Numbers.{strats_numbers}
use Rattle.pt_ast.specs.Plain.{plain_strat, plain_strats}
use Rattle.pt_grammar.specs.Reading.{is_comma}
use Rattle.pt_grammar.specs.StratReading.{strat_below, more_strat_at, next_node}
use Rattle.pt_taking.proofs.Rows.{Row}
use Rattle.pt_read_strats.proofs.strats.+strats.Given as goal

abbrev pub decreases-read_strat : goal.decreases-read_strat
decreases-read_strat l = 6 * l.left + 5

abbrev pub decreases-strat_below : goal.decreases-strat_below
decreases-strat_below l = 6 * l.left

abbrev pub decreases-read_lists : goal.decreases-read_lists
decreases-read_lists l = 6 * l.left + 4

abbrev pub decreases-read_tuples : goal.decreases-read_tuples
decreases-read_tuples l = 6 * l.left + 4

abbrev pub decreases-read_one_of : goal.decreases-read_one_of
decreases-read_one_of l = 6 * l.left + 4

abbrev pub decreases-read_map : goal.decreases-read_map
decreases-read_map l = 6 * l.left + 4

abbrev pub decreases-read_filter : goal.decreases-read_filter
decreases-read_filter l = 6 * l.left + 4

abbrev pub decreases-read_flat_map : goal.decreases-read_flat_map
decreases-read_flat_map l = 6 * l.left + 4

abbrev pub decreases-read_recursive : goal.decreases-read_recursive
decreases-read_recursive l = 6 * l.left + 4

abbrev pub decreases-read_more : goal.decreases-read_more
decreases-read_more l = 6 * l.left + 3

abbrev pub decreases-read_part : goal.decreases-read_part
decreases-read_part l = 6 * l.left + 2

abbrev pub decreases-refuse : goal.decreases-refuse
decreases-refuse l = 6 * l.left + 1

abbrev pub decreases-read_more-loop-behind : goal.decreases-read_more-loop-behind
decreases-read_more-loop-behind l = length l.rest

abbrev pub invariant-read_more-loop-behind : goal.invariant-read_more-loop-behind
invariant-read_more-loop-behind l = record {
  row : Row (more_strat_at (strat_below l.left)) (λ given. is_comma) next_node (map plain_strat l.fn.first) (l.room, l.from) l.tokens (map plain_strat l.parts) (l.space, l.next) l.rest;
  numbers : l.next + length (strats_numbers (plain_strats l.fn.first)) ≡ l.from + length (strats_numbers (plain_strats l.parts));
  few : l.next + length l.rest ≤ l.from + length l.tokens;
}
