use Rattle.std.proofs.Common.{◌≡◌, Some, Err, rules}
use Rattle.pt_plan.specs.Open.{open_spans}
use Rattle.pt_plan.specs.Plan.{Gives, and_then}
use Rattle.pt_plan.proofs.DrewLemmas.{leads-new, leads-noted, drew-call}
use Rattle.pt_rules.specs.Machine.{chosen_plan}
use Rattle.pt_rules.proofs.StepLemmas.{step-moved, step-closed}
use Rattle.pt_rules.proofs.run.step_by.Goals as goal

pub returns-in_err-show_step-clause-drew : goal.returns-in_err-show_step-clause-drew
returns-in_err-show_step-clause-drew g c =
    let rule = g.R.Rule.meaning c.args.rule.now in
    let gave : c.from_residual.result ≡ Err c.in_err-show_step.field-0.0 = search rules in
    rw gave (drew-call c.in_err-show_step.ensures.drew (λ (u : Unit {0}). and_then (rule.step c.args.state.now) (λ next. Gives (Some next)))
    (leads-new (chosen_plan c.args.state.now (Some rule)) c.args.case.now))

pub returns-clause-drew : goal.returns-clause-drew
returns-clause-drew g c =
    let rule = g.R.Rule.meaning c.args.rule.now in
    step-moved (rule.step c.args.state.now) c.step.new.state c.passed.result
    (leads-noted c.in_ok-show_step.ensures.drew (leads-new (chosen_plan c.args.state.now (Some rule)) c.args.case.now))
    (rw (c.passed.ensures c.step.new.state) at c.step.ensures.drew)

pub returns-clause-closed : goal.returns-clause-closed
returns-clause-closed g c =
    let rule = g.R.Rule.meaning c.args.rule.now in
    step-closed (rule.step c.args.state.now) c.step.new.state (open_spans c.args.case.now) c.passed.result c.step.ensures.balanced
    c.in_ok-show_step.ensures.closed (rw (c.passed.ensures c.step.new.state) at c.step.ensures.drew)
