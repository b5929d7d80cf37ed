use Rattle.std.proofs.Common.{◌≡◌, drop, map}
use Rattle.std.specs.List.{All}
use Rattle.pt_ast.specs.Plain.{plain_stmt}
use Rattle.pt_ast.specs.Bounds.{IsPlainStmt}
use Rattle.pt_plan.specs.Open.{open_spans}
use Rattle.pt_plan.proofs.DrewLemmas.{Leads}
use Rattle.pt_strat.specs.Statement.{body_plan, world_of, Extends}
use Rattle.pt_strat.proofs.statements.run_body.Given as goal

-- the statements that are left are still to be run
abbrev pub invariant-loop-stmt : goal.invariant-loop-stmt
invariant-loop-stmt l =
    Leads (body_plan l.into (map plain_stmt l.stmts) (world_of l.fn.env l.fn.bundles)) l.fn.case
    (body_plan l.into (map plain_stmt (drop l.stmt-index l.stmts)) (world_of l.env l.bundles)) l.case
    × (open_spans l.case ≡ open_spans l.fn.case) × (All IsPlainStmt (map plain_stmt l.stmts) → Extends l.fn.env l.env)
