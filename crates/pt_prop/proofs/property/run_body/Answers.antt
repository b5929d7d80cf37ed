use Rattle.std.proofs.Common.{◌≡◌, Err, List, map, rules}
use Rattle.pt_case.specs.declared.ending.Ending.TheVariants.{Pass}
use Rattle.pt_ast.specs.declared.binding.Binding.{Binding}
use Rattle.pt_ast.specs.Plain.{plain_stmt}
use Rattle.pt_plan.specs.Plan.{Gives}
use Rattle.pt_plan.proofs.DrewLemmas.{leads-new, leads-call, drew-call, drew-ended}
use Rattle.pt_prop.specs.Property.{property_plan}
use Rattle.pt_prop.proofs.property.run_body.Goals as goal

pub returns-in_err-run_stmts-clause-drew : goal.returns-in_err-run_stmts-clause-drew
returns-in_err-run_stmts-clause-drew c =
    let gave : c.from_residual.result ≡ Err c.in_err-run_stmts.field-0.0 = search rules in
    rw gave (drew-call (rw (c.as_slice.ensures, c.empty-env.ensures) at c.in_err-run_stmts.ensures.drew) (λ (names : List Binding). Gives Pass)
    (leads-new (property_plan (map plain_stmt c.args.stmts.now)) c.args.case.now))

pub returns-clause-drew : goal.returns-clause-drew
returns-clause-drew c =
    drew-ended (leads-call (rw (c.as_slice.ensures, c.empty-env.ensures) at c.in_ok-run_stmts.ensures.drew) (λ (names : List Binding). Gives Pass)
    (leads-new (property_plan (map plain_stmt c.args.stmts.now)) c.args.case.now))
