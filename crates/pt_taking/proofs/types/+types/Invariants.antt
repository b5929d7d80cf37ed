use Rattle.std.proofs.Common.{◌+◌, ◌*◌, ◌∷◌, [], length, map}
use Rattle.pt_ast.specs.Plain.{plain_type}
use Rattle.pt_grammar.specs.Reading.{is_comma, less_room}
use Rattle.pt_grammar.specs.TypeReading.{more_type_at, type_below}
use Rattle.pt_taking.proofs.Rows.{Row}
use Rattle.pt_taking.proofs.types.+types.Given as goal

abbrev pub decreases-read_type : goal.decreases-read_type
decreases-read_type l = 8 * l.left + 6

abbrev pub decreases-read_list : goal.decreases-read_list
decreases-read_list l = 8 * l.left + 5

abbrev pub decreases-read_tuple : goal.decreases-read_tuple
decreases-read_tuple l = 8 * l.left + 5

abbrev pub decreases-read_parts : goal.decreases-read_parts
decreases-read_parts l = 8 * l.left + 4

abbrev pub decreases-read_part : goal.decreases-read_part
decreases-read_part l = 8 * l.left + 3

abbrev pub decreases-refuse : goal.decreases-refuse
decreases-refuse l = 8 * l.left + 2

abbrev pub decreases-read_inner : goal.decreases-read_inner
decreases-read_inner l = 8 * l.left + 1

abbrev pub decreases-read_parts-loop-behind : goal.decreases-read_parts-loop-behind
decreases-read_parts-loop-behind l = length l.rest

abbrev pub invariant-read_parts-loop-behind : goal.invariant-read_parts-loop-behind
invariant-read_parts-loop-behind l =
    Row (more_type_at (type_below l.left)) (λ room. is_comma) less_room (plain_type l.fn.first ∷ plain_type l.fn.second ∷ []) 6 l.tokens (map plain_type l.parts) l.room l.rest
