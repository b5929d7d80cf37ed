use Rattle.std.proofs.Common.{◌≡◌, Ok, Err, map, rules}
use Rattle.pt_ast.specs.Plain.{plain_stmt}
use Rattle.pt_strat.specs.Statement.{body_plan, world_of}
use Rattle.pt_strat.proofs.DrawnLaws.{going-stopped}
use Rattle.pt_strat.proofs.statements.run_rule.Goals as goal

pub returns-in_err-run_body-clause-stopped : goal.returns-in_err-run_body-clause-stopped
returns-in_err-run_body-clause-stopped c =
    let gave : c.from_residual.result ≡ Err c.in_err-run_body.field-0.0 = search rules in
    rw gave (going-stopped (body_plan c.args.into.now (map plain_stmt c.args.stmts.now) c.args.world) c.args.world _ _ (Err c.in_err-run_body.field-0.0)
    c.in_err-run_body.ensures.drew)

pub returns-clause-stopped : goal.returns-clause-stopped
returns-clause-stopped c =
    let after = world_of c.run_body.new.env c.run_body.new.bundles in
    going-stopped (body_plan c.args.into.now (map plain_stmt c.args.stmts.now) c.args.world) after _ _ (Ok after) c.in_ok-run_body.ensures.drew
