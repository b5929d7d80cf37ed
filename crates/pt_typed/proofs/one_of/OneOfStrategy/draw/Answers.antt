use Rattle.std.proofs.Common.{◌≡◌, pos, Err, to_z, of_z, rules}
use Rattle.std.specs.Int.{w128}
use Rattle.pt_plan.specs.Asked.{asked_integer}
use Rattle.pt_typed.specs.Plans.{either_plan}
use Rattle.pt_typed.proofs.DrawLemmas.{span-failed, span-drawn}
use Rattle.pt_typed.proofs.one_of.OneOfStrategy.draw.Goals as goal

pub returns-in_err-value : goal.returns-in_err-value
returns-in_err-value g c =
    let either = either_plan (g.A.Strategy.plan c.args.self.now.a) (g.B.Strategy.plan c.args.self.now.b) in
    let gave : c.from_residual-in_err-value.result ≡ Err c.in_err-value.field-0.0 = search rules in
    let same : to_z w128 (of_z w128 c.in_ok-which.which) ≡ c.in_ok-which.which = search rules in
    rw gave (span-failed (asked_integer (pos 0) (pos 1)) either c.in_ok-enter.ensures.drew c.in_ok-which.ensures.drew (rw same at c.in_err-value.ensures.drew))

pub returns : goal.returns
returns g c =
    let either = either_plan (g.A.Strategy.plan c.args.self.now.a) (g.B.Strategy.plan c.args.self.now.b) in
    let same : to_z w128 (of_z w128 c.in_ok-which.which) ≡ c.in_ok-which.which = search rules in
    span-drawn (asked_integer (pos 0) (pos 1)) either c.in_ok-enter.ensures.drew c.in_ok-which.ensures.drew (rw same at c.in_ok-value.ensures.drew) c.leave.ensures.left
