use Rattle.std.proofs.Common.{◌≡◌, Err, rules}
use Rattle.pt_plan.specs.Plan.{Gives}
use Rattle.pt_plan.proofs.DrewLemmas.{leads-left, drew-ended}
use Rattle.pt_typed.proofs.DrawLemmas.{span-stopped, span-second}
use Rattle.pt_typed.proofs.map.MapStrategy.draw.Goals as goal

pub apply-requires : goal.apply-requires
apply-requires g c = c.args.self.now.taken (g.S.Value.ToVal.val c.in_ok-value.value) c.in_ok-value.ensures.inside

pub returns-in_err-value : goal.returns-in_err-value
returns-in_err-value g c =
    let gave : c.from_residual-in_err-value.result ≡ Err c.in_err-value.field-0.0 = search rules in
    rw gave (span-stopped (g.S.Strategy.plan c.args.self.now.inner) (λ value. Gives (g.F.Function.image c.args.self.now.f value)) c.in_ok-enter.ensures.drew
    c.in_err-value.ensures.drew)

pub returns : goal.returns
returns g c =
    rw c.in_ok-apply.ensures (drew-ended (leads-left c.leave.ensures.left
    (span-second (g.S.Strategy.plan c.args.self.now.inner) (λ value. Gives (g.F.Function.image c.args.self.now.f value)) c.in_ok-enter.ensures.drew
    c.in_ok-value.ensures.drew)))
