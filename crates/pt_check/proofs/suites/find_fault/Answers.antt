use Rattle.std.proofs.Common.{rules}
use Rattle.pt_ast.specs.Plain.{plain_suite}
use Rattle.pt_typing.specs.SuiteChecks.{checked_suite}
use Rattle.pt_check.specs.Says.{Says}
use Rattle.pt_check.proofs.Whole.{answers, completes}
use Rattle.pt_check.proofs.suites.find_fault.Goals as goal

pub returns-clause-answer : goal.returns-clause-answer
returns-clause-answer c =
    let said : Says (checked_suite c.args.known.now (plain_suite c.args.suite.now)) (tt {0}) c.check_items.result = search rules in
    answers c.args.known.now (plain_suite c.args.suite.now) c.check_items.result said

pub returns-clause-complete : goal.returns-clause-complete
returns-clause-complete c =
    let said : Says (checked_suite c.args.known.now (plain_suite c.args.suite.now)) (tt {0}) c.check_items.result = search rules in
    completes c.args.known.now (plain_suite c.args.suite.now) c.check_items.result said
