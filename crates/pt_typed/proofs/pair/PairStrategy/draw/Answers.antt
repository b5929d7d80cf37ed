use Rattle.std.proofs.Common.{◌≡◌, Err, rules}
use Rattle.pt_plan.specs.Plan.{Gives, Leaves, and_then}
use Rattle.pt_plan.proofs.DrewLemmas.{leads-call, leads-left, drew-call, drew-ended}
use Rattle.pt_typed.specs.Shown.{pair_of}
use Rattle.pt_typed.proofs.PairLemmas.{pair-first, pair-second}
use Rattle.pt_typed.proofs.pair.PairStrategy.draw.Goals as goal

pub returns-in_err-a : goal.returns-in_err-a
returns-in_err-a g c =
    let first = g.A.Strategy.plan c.args.self.now.a in
    let second = g.B.Strategy.plan c.args.self.now.b in
    let gave : c.from_residual-in_err-a.result ≡ Err c.in_err-a.field-0.0 = search rules in
    rw gave (drew-call c.in_err-a.ensures.drew (λ one. and_then (and_then second (λ other. Gives (pair_of one other))) (λ value. Leaves (Gives value)))
    (pair-first first second c.in_ok-enter.ensures.drew))

pub returns-in_err-b : goal.returns-in_err-b
returns-in_err-b g c =
    let first = g.A.Strategy.plan c.args.self.now.a in
    let second = g.B.Strategy.plan c.args.self.now.b in
    let one = g.A.Value.ToVal.val c.in_ok-a.a in
    let gave : c.from_residual-in_err-b.result ≡ Err c.in_err-b.field-0.0 = search rules in
    rw gave (drew-call c.in_err-b.ensures.drew (λ other. Leaves (Gives (pair_of one other)))
    (pair-second first second c.in_ok-enter.ensures.drew one c.in_ok-a.ensures.drew))

pub returns : goal.returns
returns g c =
    let first = g.A.Strategy.plan c.args.self.now.a in
    let second = g.B.Strategy.plan c.args.self.now.b in
    let one = g.A.Value.ToVal.val c.in_ok-a.a in
    drew-ended (leads-left c.leave.ensures.left (leads-call c.in_ok-b.ensures.drew (λ other. Leaves (Gives (pair_of one other)))
    (pair-second first second c.in_ok-enter.ensures.drew one c.in_ok-a.ensures.drew)))
