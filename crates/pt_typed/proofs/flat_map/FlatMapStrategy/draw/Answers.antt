use Rattle.std.proofs.Common.{◌≡◌, Err, rules}
use Rattle.pt_typed.proofs.DrawLemmas.{span-stopped, span-failed, span-drawn}
use Rattle.pt_typed.proofs.flat_map.FlatMapStrategy.draw.Goals as goal

pub next-requires : goal.next-requires
next-requires g c = c.args.self.now.taken (g.S.Value.ToVal.val c.in_ok-first.first) c.in_ok-first.ensures.inside

pub returns-in_err-first : goal.returns-in_err-first
returns-in_err-first g c =
    let gave : c.from_residual-in_err-first.result ≡ Err c.in_err-first.field-0.0 = search rules in
    rw gave (span-stopped (g.S.Strategy.plan c.args.self.now.inner) (g.F.Next.plan c.args.self.now.f) c.in_ok-enter.ensures.drew c.in_err-first.ensures.drew)

pub returns-in_err-value : goal.returns-in_err-value
returns-in_err-value g c =
    let gave : c.from_residual-in_err-value.result ≡ Err c.in_err-value.field-0.0 = search rules in
    rw gave (span-failed (g.S.Strategy.plan c.args.self.now.inner) (g.F.Next.plan c.args.self.now.f) c.in_ok-enter.ensures.drew c.in_ok-first.ensures.drew
    (rw c.in_ok-next.ensures.plan at c.in_err-value.ensures.drew))

pub returns : goal.returns
returns g c =
    span-drawn (g.S.Strategy.plan c.args.self.now.inner) (g.F.Next.plan c.args.self.now.f) c.in_ok-enter.ensures.drew c.in_ok-first.ensures.drew
    (rw c.in_ok-next.ensures.plan at c.in_ok-value.ensures.drew) c.leave.ensures.left
