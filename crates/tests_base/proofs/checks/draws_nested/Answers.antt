use Rattle.std.proofs.Common.{◌≡◌, Err, rules}
use Rattle.pt_plan.specs.Stop.{draw_stop_of}
use Rattle.pt_plan.proofs.DrewLemmas.{leads-new, leads-unused, leads-entered, leads-left, drew-unused, drew-entered, drew-ended}
use Rattle.tests_base.specs.Checks.{nested_plan}
use Rattle.tests_base.proofs.checks.draws_nested.Goals as goal

pub returns-in_err-ask_integer-clause-drew : goal.returns-in_err-ask_integer-clause-drew
returns-in_err-ask_integer-clause-drew c =
    let first = leads-unused c.in_ok-ask_flag.ensures.drew (leads-entered c.in_ok-enter.ensures.drew (leads-new nested_plan c.args.case.now)) in
    let gave : c.from_residual-in_err-ask_integer.result ≡ Err (draw_stop_of c.in_err-ask_integer.field-0.0) = search rules in
    rw gave (drew-unused c.in_err-ask_integer.ensures.drew _ (leads-entered c.in_ok-enter-2.ensures.drew first))

pub returns-in_err-enter-3-clause-drew : goal.returns-in_err-enter-3-clause-drew
returns-in_err-enter-3-clause-drew c =
    let first = leads-unused c.in_ok-ask_flag.ensures.drew (leads-entered c.in_ok-enter.ensures.drew (leads-new nested_plan c.args.case.now)) in
    let second = leads-unused c.in_ok-ask_integer.ensures.drew (leads-entered c.in_ok-enter-2.ensures.drew first) in
    let gave : c.from_residual-in_err-enter-3.result ≡ Err (draw_stop_of c.in_err-enter-3.field-0.0) = search rules in
    rw gave (drew-entered c.in_err-enter-3.ensures.drew second)

pub returns-in_err-ask_flag-2-clause-drew : goal.returns-in_err-ask_flag-2-clause-drew
returns-in_err-ask_flag-2-clause-drew c =
    let first = leads-unused c.in_ok-ask_flag.ensures.drew (leads-entered c.in_ok-enter.ensures.drew (leads-new nested_plan c.args.case.now)) in
    let second = leads-unused c.in_ok-ask_integer.ensures.drew (leads-entered c.in_ok-enter-2.ensures.drew first) in
    let gave : c.from_residual-in_err-ask_flag-2.result ≡ Err (draw_stop_of c.in_err-ask_flag-2.field-0.0) = search rules in
    rw gave (drew-unused c.in_err-ask_flag-2.ensures.drew _ (leads-entered c.in_ok-enter-3.ensures.drew second))

pub returns-clause-drew : goal.returns-clause-drew
returns-clause-drew c =
    let first = leads-unused c.in_ok-ask_flag.ensures.drew (leads-entered c.in_ok-enter.ensures.drew (leads-new nested_plan c.args.case.now)) in
    let second = leads-unused c.in_ok-ask_integer.ensures.drew (leads-entered c.in_ok-enter-2.ensures.drew first) in
    let third = leads-unused c.in_ok-ask_flag-2.ensures.drew (leads-entered c.in_ok-enter-3.ensures.drew second) in
    drew-ended (leads-left c.leave-3.ensures.left (leads-left c.leave-2.ensures.left (leads-left c.leave.ensures.left third)))
