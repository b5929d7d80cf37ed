use Rattle.std.proofs.Common.{◌≡◌, Some, sym, subst}
use Rattle.std.specs.Option.{option_map}
use Rattle.pt_check.specs.Says.{fault_in}
use Rattle.pt_report.specs.declared.refusal.Refusal.{Refusal}
use Rattle.pt_run.specs.Suite.{ComesTo, type_refusal}
use Rattle.pt_run.specs.declared.loading.Loaded.{Loaded}
use Rattle.pt_run.specs.declared.loading.Loaded.TheVariants.{Refused}
use Rattle.pt_ast.specs.Plain.{plain_suite}
use Rattle.pt_run.proofs.Messages.{IfOk-follows}
use Rattle.pt_run.proofs.Suites.{said_of_types}
use Rattle.pt_run.proofs.loading.sealed.Goals as goal

pub returns-in-Err-check_suite : goal.returns-in-Err-check_suite
returns-in-Err-check_suite c =
    let known = c.args.known.now in
    let text = c.args.text.now in
    let why = c.in-Err-check_suite.fault in
    IfOk-follows c.untyped.result
    (λ (loaded : Loaded). (said : Refusal) × (loaded ≡ Refused said) × (option_map type_refusal (fault_in why) ≡ Some said)) (ComesTo known text) c.untyped.ensures
    (λ loaded is. subst (λ (l : Loaded). ComesTo known text l) (sym is.1)
    (said_of_types known text (plain_suite c.in-Ok.suite) why is.0 c.in-Ok.ensures.reads c.in-Err-check_suite.ensures.answer is.2))
