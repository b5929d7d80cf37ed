use Rattle.std.proofs.Common.{sym, ap, ◌∙◌}
use Rattle.pt_ast.specs.Names.{with_name}
use Rattle.pt_check.specs.Known.{Known, top, with_scope}
use Rattle.pt_check.proofs.Lookups.{free-lookup, named-scope}
use Rattle.pt_check.proofs.Views.{seen, popped-is, released-is, scope-tied}
use Rattle.pt_check.proofs.checker.Checker.bind.Goals as goal

pub enter-requires : goal.enter-requires
enter-requires c =
    let i = c.self.inside in
    free-lookup i.types i.scope c.args.self.now.scope c.args.given.now.name (ap (λ (k : Known). k.scope) c.self.view_is) c.requires

pub invariant_of-self-2 : goal.invariant_of-self-2
invariant_of-self-2 c =
    let i = c.self.inside in
    scope-tied i c.enter.new.self c.pop-number.new.self c.args.given.now.name c.pop-number.result c.self.invariant c.in_ok-enter.ensures.ok c.pop-number.ensures.rest c.pop-number.ensures.newest

pub returns : goal.returns
returns c =
    let i = c.self.inside in
    let old = c.args.self.now in
    let found = popped-is i old c.self.view_is c.pop-number.result c.self.invariant.from_base c.pop-number.ensures.newest in
    ap (with_scope (seen i c.pop-number.new.self))
    (named-scope i.types i.scope c.enter.new.self old.scope c.args.given.now c.pop-number.result (top old) (ap (λ (k : Known). k.scope) c.self.view_is) c.in_ok-enter.ensures.ok (sym found))
    ∙ ap (λ k. with_scope k (with_name old.scope c.args.given.now (top old))) (released-is i old c.self.view_is c.pop-number.new.self c.pop-number.ensures.rest)
