use Rattle.std.proofs.Common.{◌≡◌, Err, rules}
use Rattle.pt_typed.specs.Fail.{fail_of}
use Rattle.pt_typed.specs.Plans.{more_plan, element_if}
use Rattle.pt_typed.proofs.DrawLemmas.{span-refused, span-failed, span-drawn}
use Rattle.pt_typed.proofs.list_of.draw_element.Goals as goal

pub returns-in_err-more-clause-drew : goal.returns-in_err-more-clause-drew
returns-in_err-more-clause-drew g c =
    let gave : c.from_residual-in_err-more.result ≡ Err (fail_of c.in_err-more.field-0.0) = search rules in
    rw gave (span-refused (more_plan c.args.min c.args.count) (element_if (g.S.Strategy.plan c.args.inner.now)) c.in_ok-enter.ensures.drew
    c.in_err-more.ensures.drew)

pub returns-in_err-found-clause-drew : goal.returns-in_err-found-clause-drew
returns-in_err-found-clause-drew g c =
    let gave : c.from_residual-in_err-found.result ≡ Err c.in_err-found.field-0.0 = search rules in
    rw gave (span-failed (more_plan c.args.min c.args.count) (element_if (g.S.Strategy.plan c.args.inner.now)) c.in_ok-enter.ensures.drew
    c.in_ok-more.ensures.drew c.in_err-found.ensures.drew)

pub returns-clause-drew : goal.returns-clause-drew
returns-clause-drew g c =
    span-drawn (more_plan c.args.min c.args.count) (element_if (g.S.Strategy.plan c.args.inner.now)) c.in_ok-enter.ensures.drew
    c.in_ok-more.ensures.drew c.in_ok-found.ensures.drew c.leave.ensures.left
