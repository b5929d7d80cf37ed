use Rattle.std.proofs.Common.{◌≡◌, drop, map}
use Rattle.pt_ast.specs.Plain.{plain_stmt}
use Rattle.pt_machine.specs.Enabled.{can_pick}
use Rattle.pt_machine.proofs.enabling.can_pick.Given as goal

-- the statements that are left decide
abbrev pub invariant-loop-stmt : goal.invariant-loop-stmt
invariant-loop-stmt l = can_pick l.bundles (map plain_stmt l.stmts) ≡ can_pick l.bundles (map plain_stmt (drop l.stmt-index l.stmts))
