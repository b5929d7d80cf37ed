use Rattle.std.proofs.Common.{None, [], map, ap}
use Rattle.std.specs.Result.{is_err}
use Rattle.pt_ast.specs.Plain.{plain_stmt}
use Rattle.pt_strat.specs.Statement.{body_plan, world_of}
use Rattle.pt_strat.proofs.BodyLemmas.{names-left}
use Rattle.pt_strat.proofs.DrawnLaws.{going-stopped}
use Rattle.pt_strat.proofs.statements.run_stmts.Goals.{then-is_err, else-is_err}
use Rattle.pt_strat.proofs.statements.run_stmts.Goals as goal

pub returns-clause-drew : goal.returns-clause-drew
returns-clause-drew c =
    names-left (map plain_stmt c.args.stmts.now) c.args.env.now c.run_body-outcome.new.env c.run_body-outcome.new.bundles c.run_body-outcome.result
    (rw c.empty-bundles.ensures at c.run_body-outcome.ensures.drew) c.if-is_err.env
    (λ value gave. elim c.if-is_err.branch [
      | then-is_err w ↦ let test = w.if-is_err.true in let means = c.is_err.ensures.value in let e = ap is_err gave in cc
      | else-is_err w ↦ w.env-is
    ])

pub returns-clause-stopped : goal.returns-clause-stopped
returns-clause-stopped c =
    going-stopped (body_plan None (map plain_stmt c.args.stmts.now) (world_of c.args.env.now [])) (world_of c.run_body-outcome.new.env c.run_body-outcome.new.bundles) _ _
    c.run_body-outcome.result (rw c.empty-bundles.ensures at c.run_body-outcome.ensures.drew)
