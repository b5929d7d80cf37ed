use Rattle.std.proofs.Common.{◌≡◌, Err, rules}
use Rattle.pt_ast.specs.Plain.{plain_machine}
use Rattle.pt_machine.proofs.StepLemmas.{run-failed, run-ended}
use Rattle.pt_machine.proofs.machine.run_machine.Goals as goal

pub returns-in_err-ending-clause-drew : goal.returns-in_err-ending-clause-drew
returns-in_err-ending-clause-drew c =
    let gave : c.from_residual-in_err-ending.result ≡ Err c.in_err-ending.field-0.0 = search rules in
    rw gave (run-failed (plain_machine c.args.machine.now) c.args.steps c.in_ok-start.start c.in_ok-start.ensures c.node_label.ensures c.in_ok-enter.ensures.drew
    c.in_err-ending.ensures.drew)

pub returns-clause-drew : goal.returns-clause-drew
returns-clause-drew c =
    run-ended (plain_machine c.args.machine.now) c.args.steps c.in_ok-start.start c.in_ok-start.ensures c.node_label.ensures c.in_ok-enter.ensures.drew
    c.in_ok-ending.ensures.drew c.leave.ensures.left
