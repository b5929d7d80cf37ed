use Rattle.std.proofs.Common.{[], map, sym, subst, rules}
use Rattle.pt_ast.specs.Plain.{plain_stmt, plain_body, plain_machine}
use Rattle.pt_ast.specs.Suites.{no_context}
use Rattle.pt_typing.specs.SuiteChecks.{bound_by_all, checked_machine, checked_body}
use Rattle.pt_check.specs.Says.{Says}
use Rattle.pt_check.proofs.Turns.{made-says}
use Rattle.pt_check.proofs.suites.check_item.Goals as goal

pub returns-in_ok-checker-in-Property : goal.returns-in_ok-checker-in-Property
returns-in_ok-checker-in-Property c =
    let known = c.args.known.now in
    let name = c.args.item.now.name in
    let said : Says (bound_by_all no_context [] (map plain_stmt c.in-Property.stmts)) c.check_stmts.new.checker.scope c.check_stmts.result = search rules in
    subst (λ body. Says (checked_body known name (plain_body body)) tt c.check_stmts.result) (sym c.in-Property.is)
    (made-says (bound_by_all no_context [] (map plain_stmt c.in-Property.stmts)) c.check_stmts.new.checker.scope c.check_stmts.result said)

pub returns-in_ok-checker-in-Machine : goal.returns-in_ok-checker-in-Machine
returns-in_ok-checker-in-Machine c =
    let known = c.args.known.now in
    let name = c.args.item.now.name in
    let said : Says (checked_machine (plain_machine c.in-Machine.machine)) (tt {0}) c.check_machine.result = search rules in
    subst (λ body. Says (checked_body known name (plain_body body)) (tt {0}) c.check_machine.result) (sym c.in-Machine.is) said
