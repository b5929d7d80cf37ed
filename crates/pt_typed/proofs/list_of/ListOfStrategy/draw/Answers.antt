use Rattle.std.proofs.Common.{◌≡◌, [], Err, rules}
use Rattle.pt_typed.specs.Plans.{elements_plan}
use Rattle.pt_typed.proofs.DrawLemmas.{inside-failed, inside-drawn}
use Rattle.pt_typed.proofs.list_of.ListOfStrategy.draw.Goals as goal

pub returns-in_err-elements : goal.returns-in_err-elements
returns-in_err-elements g c =
    let least : c.from.result ≡ c.args.self.now.min = search rules in
    let most : c.from-2.result ≡ c.args.self.now.max = search rules in
    let gave : c.from_residual-in_err-elements.result ≡ Err c.in_err-elements.field-0.0 = search rules in
    rw gave (inside-failed (elements_plan (g.S.Strategy.plan c.args.self.now.inner) c.args.self.now.min c.args.self.now.max []) c.in_ok-enter.ensures.drew
    (rw (least, most) at c.in_err-elements.ensures.drew))

pub returns : goal.returns
returns g c =
    let least : c.from.result ≡ c.args.self.now.min = search rules in
    let most : c.from-2.result ≡ c.args.self.now.max = search rules in
    inside-drawn (elements_plan (g.S.Strategy.plan c.args.self.now.inner) c.args.self.now.min c.args.self.now.max []) c.in_ok-enter.ensures.drew
    (rw (least, most) at c.in_ok-elements.ensures.drew) c.leave.ensures.left
