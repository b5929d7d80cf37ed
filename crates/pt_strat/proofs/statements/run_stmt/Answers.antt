use Rattle.std.proofs.Common.{◌≡◌, Err, rules}
use Rattle.pt_ast.specs.declared.stmt.StmtKind.TheVariants as kind
use Rattle.pt_ast.specs.Plain.{plain_strat}
use Rattle.pt_plan.specs.Plan.{Rejects}
use Rattle.pt_strat.specs.Strategy.{plan_of}
use Rattle.pt_strat.specs.Statement.{world_of, shown}
use Rattle.pt_strat.proofs.DrawLemmas.{first-failed, then-rest}
use Rattle.pt_strat.proofs.BodyLemmas.{stmt-at}
use Rattle.pt_strat.proofs.statements.run_stmt.Goals as goal

pub returns-in_err-drawn-in-Draw-clause-drew : goal.returns-in_err-drawn-in-Draw-clause-drew
returns-in_err-drawn-in-Draw-clause-drew c =
    let world = world_of c.args.env.now c.args.bundles.now in
    let gave : c.from_residual.result ≡ Err c.in_err-drawn-in-Draw.field-0.0 = search rules in
    rw gave (stmt-at c.args.into.now c.args.stmt.now (kind.Draw c.in-Draw.given c.in-Draw.strat) world c.in-Draw.is
    (first-failed (plan_of (plain_strat c.in-Draw.strat) Rejects c.args.env.now) (shown c.in-Draw.given.name world) c.in_err-drawn-in-Draw.ensures.drew))

pub returns-in_ok-drawn-in-Draw-clause-drew : goal.returns-in_ok-drawn-in-Draw-clause-drew
returns-in_ok-drawn-in-Draw-clause-drew c =
    let world = world_of c.args.env.now c.args.bundles.now in
    stmt-at c.args.into.now c.args.stmt.now (kind.Draw c.in-Draw.given c.in-Draw.strat) world c.in-Draw.is
    (then-rest (plan_of (plain_strat c.in-Draw.strat) Rejects c.args.env.now) (shown c.in-Draw.given.name world) c.in_ok-drawn-in-Draw.ensures.drew
    (rw c.in_ok-drawn-in-Draw.ensures.env at (c.show.ensures.drew c.args.bundles.now)))
