use Rattle.std.proofs.Common.{◌≡◌, map, drop}
use Rattle.pt_ast.specs.Plain.{plain_stmt}
use Rattle.pt_typing.specs.SuiteChecks.{bound_by_all}
use Rattle.pt_check.specs.Known.{with_scope}
use Rattle.pt_check.proofs.stmts.check_stmts.Given as goal

-- the statements so far lead to these names
abbrev pub invariant-loop-stmt : goal.invariant-loop-stmt
invariant-loop-stmt l = (l.checker ≡ with_scope l.fn.checker l.checker.scope)
    × (bound_by_all l.fn.checker.context l.fn.checker.scope (map plain_stmt l.stmts) ≡ bound_by_all l.fn.checker.context l.checker.scope (map plain_stmt (drop l.stmt-index l.stmts)))
