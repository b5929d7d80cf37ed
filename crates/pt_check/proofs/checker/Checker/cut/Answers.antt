use Rattle.std.proofs.Common.{take, ap, ◌∙◌}
use Rattle.pt_check.specs.Known.{Known, with_scope}
use Rattle.pt_check.specs.Numbers.{scope_of}
use Rattle.pt_check.proofs.Lookups.{scope-cut}
use Rattle.pt_check.proofs.Views.{seen}
use Rattle.pt_check.proofs.checker.Checker.cut.Goals as goal

pub returns : goal.returns
returns c =
    let i = c.self.inside in
    ap (λ names. with_scope (seen i i.held) (scope_of i.types names)) c.cut.ensures ∙ ap (with_scope (seen i i.held)) (scope-cut i.types c.args.len i.scope)
    ∙ ap (λ (k : Known). with_scope k (take c.args.len k.scope)) c.self.view_is
