use Rattle.std.proofs.Common.{◌≡◌, ◌≤◌, map, length, Err, arith, rules}
use Rattle.pt_rules.specs.Machine.{enabled_rules}
use Rattle.pt_rules.proofs.StepLemmas.{turn-failed, turn-ended}
use Rattle.pt_rules.proofs.run.make_step.Goals as goal

pub returns-in_err-went-clause-drew : goal.returns-in_err-went-clause-drew
returns-in_err-went-clause-drew g c =
    let enabled = enabled_rules (map g.R.Rule.meaning c.args.rules.now) c.args.state.now in
    let some : 1 ≤ length (enabled_rules (map g.R.Rule.meaning c.args.rules.now) c.args.state.now) = grind arith in
    let gave : c.from_residual-in_err-went.result ≡ Err c.in_err-went.field-0.0 = search rules in
    rw gave (turn-failed enabled c.args.state.now some c.in_ok-enter.ensures.drew c.in_ok-more.more c.in_ok-more.ensures.drew c.in_err-went.ensures.drew)

pub returns-clause-drew : goal.returns-clause-drew
returns-clause-drew g c =
    let enabled = enabled_rules (map g.R.Rule.meaning c.args.rules.now) c.args.state.now in
    let some : 1 ≤ length (enabled_rules (map g.R.Rule.meaning c.args.rules.now) c.args.state.now) = grind arith in
    turn-ended enabled c.args.state.now some c.in_ok-enter.ensures.drew c.in_ok-more.more c.in_ok-more.ensures.drew c.step_if.new.state c.in_ok-went.went
    c.in_ok-went.ensures.drew c.leave.ensures.left
