use Rattle.std.proofs.Common.{◌≡◌, List, ◌∷◌}
use Rattle.pt_ast.specs.Types.{TypeTree, TypeTrees, no_type, Tuple_type}
use Rattle.pt_check.specs.Known.{with_held, parts_held, below}
use Rattle.pt_check.proofs.functions.make_tuple.Given as goal

-- the parts so far are a tuple's, and so many are left
abbrev pub invariant-loop-left : goal.invariant-loop-left
invariant-loop-left l =
    (types : TypeTrees) × (rest : List TypeTree) × (l.checker ≡ with_held l.fn.checker (Tuple_type types ∷ rest))
    × (parts_held l.parts l.fn.checker.held no_type ≡ parts_held l.left rest types) × (below l.parts l.fn.checker.held ≡ below l.left rest)

abbrev pub decreases-loop-left : goal.decreases-loop-left
decreases-loop-left l = l.left
