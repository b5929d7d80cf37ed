use Rattle.std.proofs.Common.{◌≡◌, map, drop}
use Rattle.std.specs.List.{list_any}
use Rattle.pt_ast.specs.Bounds.{gives}
use Rattle.pt_ast.specs.Plain.{plain_stmt}
use Rattle.pt_check.proofs.machines.gives.Given as goal

-- none of the statements so far gives
abbrev pub invariant-loop-stmt : goal.invariant-loop-stmt
invariant-loop-stmt l = list_any gives (map plain_stmt l.stmts) ≡ list_any gives (map plain_stmt (drop l.stmt-index l.stmts))
