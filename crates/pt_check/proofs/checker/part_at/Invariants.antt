use Rattle.std.proofs.Common.{◌≡◌, ◌<◌, length}
use Rattle.pt_ast.specs.Typing.{part_type}
use Rattle.pt_types.specs.Kept.{type_of, types_under}
use Rattle.pt_check.proofs.checker.part_at.Given as goal

-- the part is so many further on
abbrev pub invariant-loop-left : goal.invariant-loop-left
invariant-loop-left l =
    (l.behind < length l.types) × (part_type l.place (types_under (type_of l.types l.tuple)) ≡ part_type l.left (types_under (type_of l.types l.behind)))

abbrev pub decreases-loop-left : goal.decreases-loop-left
decreases-loop-left l = l.left
