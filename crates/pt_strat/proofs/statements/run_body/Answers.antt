use Rattle.std.proofs.Common.{◌≡◌, ◌∙◌, ◌+◌, Err, drop, map, refl, rules, arith}
use Rattle.pt_ast.specs.Plain.{plain_stmt}
use Rattle.pt_plan.proofs.DrewLemmas.{leads-new}
use Rattle.pt_strat.specs.Statement.{world_of}
use Rattle.pt_strat.proofs.BodyLemmas.{extends-none, extends-more, stmts-next, plain-at, body-failed, body-went, body-ended}
use Rattle.pt_strat.proofs.statements.run_body.Goals as goal

pub loop-stmt-init : goal.loop-stmt-init
loop-stmt-init c = (leads-new _ _, refl, λ all. extends-none c.args.env.now)

pub returns-in_err-run_stmt-clause-drew : goal.returns-in_err-run_stmt-clause-drew
returns-in_err-run_stmt-clause-drew c =
    let so_far = c.loop-stmt.invariant in
    let gave : c.from_residual.result ≡ Err c.in_err-run_stmt.field-0.0 = search rules in
    rw gave (body-failed c.args.into.now (plain_stmt c.stmt-item.result) (map plain_stmt (drop (c.loop-stmt.stmt-index + 1) c.args.stmts.now))
    (map plain_stmt (drop c.loop-stmt.stmt-index c.args.stmts.now)) (world_of c.loop-stmt.env c.loop-stmt.bundles)
    (stmts-next c.args.stmts.now c.loop-stmt.stmt-index c.stmt-item.result (omega arith) c.stmt-item.is) so_far.0 c.in_err-run_stmt.ensures.drew)

pub returns-in_err-run_stmt-clause-kept : goal.returns-in_err-run_stmt-clause-kept
returns-in_err-run_stmt-clause-kept c = λ all.
    extends-more c.args.env.now c.loop-stmt.env c.run_stmt.new.env (c.loop-stmt.invariant.2 all)
    (c.in_err-run_stmt.ensures.kept (plain-at c.args.stmts.now c.loop-stmt.stmt-index c.stmt-item.result (omega arith) c.stmt-item.is all))

pub loop-stmt-preserved : goal.loop-stmt-preserved
loop-stmt-preserved c =
    let so_far = c.loop-stmt.invariant in (
      body-went c.args.into.now (plain_stmt c.stmt-item.result) (map plain_stmt (drop (c.loop-stmt.stmt-index + 1) c.args.stmts.now))
          (map plain_stmt (drop c.loop-stmt.stmt-index c.args.stmts.now)) (world_of c.loop-stmt.env c.loop-stmt.bundles)
          (stmts-next c.args.stmts.now c.loop-stmt.stmt-index c.stmt-item.result (omega arith) c.stmt-item.is) so_far.0
          (world_of c.run_stmt.new.env c.run_stmt.new.bundles) c.in_ok-run_stmt.ensures.drew,
      c.in_ok-run_stmt.ensures.closed ∙ so_far.1,
      λ all. extends-more c.args.env.now c.loop-stmt.env c.run_stmt.new.env (so_far.2 all)
          (c.in_ok-run_stmt.ensures.kept (plain-at c.args.stmts.now c.loop-stmt.stmt-index c.stmt-item.result (omega arith) c.stmt-item.is all)),
    )

pub returns-clause-drew : goal.returns-clause-drew
returns-clause-drew c =
    body-ended c.args.into.now c.args.stmts.now c.loop-stmt.stmt-index (world_of c.loop-stmt.env c.loop-stmt.bundles) (omega arith) c.loop-stmt.invariant.0
