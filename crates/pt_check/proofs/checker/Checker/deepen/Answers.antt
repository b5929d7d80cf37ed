use Rattle.std.proofs.Common.{◌∷◌, ap, sym, ◌∙◌}
use Rattle.pt_check.specs.Known.{Known, top, with_selves}
use Rattle.pt_check.specs.Numbers.{types_at}
use Rattle.pt_check.proofs.Views.{seen, popped-is}
use Rattle.pt_check.proofs.checker.Checker.deepen.Goals as goal

pub returns : goal.returns
returns c =
    let i = c.self.inside in
    let old = c.args.self.now in
    let found = popped-is i old c.self.view_is c.newest.result c.self.invariant.from_base c.newest.ensures in
    ap (λ selves. with_selves (seen i i.held) (types_at i.types selves)) c.in_ok-push.ensures.ok
    ∙ ap (λ type. with_selves (seen i i.held) (type ∷ types_at i.types i.selves)) (sym found)
    ∙ ap (λ (k : Known). with_selves k (top old ∷ k.selves)) c.self.view_is
