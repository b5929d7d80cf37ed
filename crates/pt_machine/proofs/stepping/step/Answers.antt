use Rattle.std.proofs.Common.{◌≡◌, Err, length, map, take, rules}
use Rattle.pt_ast.specs.Plain.{plain_invariant, plain_rule}
use Rattle.pt_machine.proofs.StepLemmas.{step-failed, step-broken, step-held}
use Rattle.pt_machine.proofs.stepping.step.Goals as goal

pub returns-in_err-after-clause-drew : goal.returns-in_err-after-clause-drew
returns-in_err-after-clause-drew c =
    let gave : c.from_residual-in_err-after.result ≡ Err c.in_err-after.field-0.0 = search rules in
    rw gave (step-failed (map plain_invariant c.args.invariants.now) (plain_rule c.args.rule.now) c.args.world c.in_ok-show_step.ensures.drew
    (rw c.as_slice.ensures at c.in_err-after.ensures.drew))

pub returns-in_err-check_invariants-clause-drew : goal.returns-in_err-check_invariants-clause-drew
returns-in_err-check_invariants-clause-drew c =
    let gave : c.from_residual-in_err-check_invariants.result ≡ Err c.in_err-check_invariants.field-0.0 = search rules in
    let left : c.cut.new.self ≡ take (length c.args.world.env) c.in_ok-after.after.env = search rules in
    rw gave (step-broken (map plain_invariant c.args.invariants.now) (plain_rule c.args.rule.now) c.args.world c.in_ok-show_step.ensures.drew
    c.in_ok-after.after c.cut.new.self (rw c.as_slice.ensures at c.in_ok-after.ensures.drew) left c.in_err-check_invariants.ensures)

pub returns-clause-drew : goal.returns-clause-drew
returns-clause-drew c =
    let left : c.cut.new.self ≡ take (length c.args.world.env) c.in_ok-after.after.env = search rules in
    step-held (map plain_invariant c.args.invariants.now) (plain_rule c.args.rule.now) c.args.world c.in_ok-show_step.ensures.drew
    c.in_ok-after.after c.cut.new.self (rw c.as_slice.ensures at c.in_ok-after.ensures.drew) left c.in_ok-check_invariants.ensures
