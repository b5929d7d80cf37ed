use Rattle.std.proofs.Common.{◌≡◌, Err, rules}
use Rattle.pt_typed.specs.Plans.{tries_plan}
use Rattle.pt_typed.proofs.DrawLemmas.{inside-failed, inside-drawn}
use Rattle.pt_typed.proofs.filter.FilterStrategy.draw.Goals as goal

pub returns-in_err-value : goal.returns-in_err-value
returns-in_err-value g c =
    let gave : c.from_residual-in_err-value.result ≡ Err c.in_err-value.field-0.0 = search rules in
    rw gave (inside-failed (tries_plan (g.S.Strategy.plan c.args.self.now.inner) (g.F.Predicate.truth c.args.self.now.f) 3) c.in_ok-enter.ensures.drew
    c.in_err-value.ensures.drew)

pub returns : goal.returns
returns g c =
    inside-drawn (tries_plan (g.S.Strategy.plan c.args.self.now.inner) (g.F.Predicate.truth c.args.self.now.f) 3) c.in_ok-enter.ensures.drew
    c.in_ok-value.ensures.drew c.leave.ensures.left
