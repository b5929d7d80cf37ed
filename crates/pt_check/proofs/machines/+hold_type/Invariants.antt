use Rattle.std.proofs.Common.{◌≡◌, List, ◌++◌, length, drop}
use Rattle.pt_ast.specs.Types.{TypeTree}
use Rattle.pt_ast.specs.Plain.{plain_types}
use Rattle.pt_check.specs.Known.{with_held}
use Rattle.pt_check.proofs.Tuples.{gather}
use Rattle.pt_check.proofs.machines.+hold_type.Given as goal

-- the types so far are held
abbrev pub invariant-hold_types-loop-ty : goal.invariant-hold_types-loop-ty
invariant-hold_types-loop-ty l = (found : List TypeTree) × (l.checker ≡ with_held l.fn.checker (found ++ l.fn.checker.held)) × (length found ≡ l.ty-index)
    × (plain_types l.types ≡ gather found (plain_types (drop l.ty-index l.types)))
