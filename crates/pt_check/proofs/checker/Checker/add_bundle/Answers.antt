use Rattle.std.proofs.Common.{sym, ap, ◌∙◌}
use Rattle.pt_typing.specs.Steps.{vacant}
use Rattle.pt_ast.specs.Names.{with_name}
use Rattle.pt_check.specs.Known.{Known, top, with_bundles}
use Rattle.pt_check.proofs.Lookups.{lost-type, named-scope}
use Rattle.pt_check.proofs.Views.{seen, taken-says, popped-is, released-is}
use Rattle.pt_check.proofs.checker.Checker.add_bundle.Goals as goal

pub returns-in-Some-clause-says : goal.returns-in-Some-clause-says
returns-in-Some-clause-says c =
    let i = c.self.inside in
    taken-says i.types i.bundles c.args.self.now.context.bundles c.args.given.now.at c.args.given.now.name c.find.result _ (ap (λ (k : Known). k.context.bundles) c.self.view_is) c.find.ensures c.in-Some.is

pub returns-in_ok-enter-in-None-clause-says : goal.returns-in_ok-enter-in-None-clause-says
returns-in_ok-enter-in-None-clause-says c =
    let i = c.self.inside in
    ap (vacant c.args.given.now.at)
    (lost-type i.types i.bundles c.args.self.now.context.bundles c.args.given.now.name (ap (λ (k : Known). k.context.bundles) c.self.view_is) (sym c.find.ensures ∙ c.in-None.is))

pub returns-in_ok-enter-in-None-clause-adds : goal.returns-in_ok-enter-in-None-clause-adds
returns-in_ok-enter-in-None-clause-adds c =
    let i = c.self.inside in
    let old = c.args.self.now in
    let found = popped-is i old c.self.view_is c.pop-number.result c.self.invariant.from_base c.pop-number.ensures.newest in
    ap (with_bundles (seen i c.pop-number.new.self))
    (named-scope i.types i.bundles c.enter.new.self old.context.bundles c.args.given.now c.pop-number.result (top old) (ap (λ (k : Known). k.context.bundles) c.self.view_is)
    c.in_ok-enter-in-None.ensures.ok (sym found))
    ∙ ap (λ k. with_bundles k (with_name old.context.bundles c.args.given.now (top old))) (released-is i old c.self.view_is c.pop-number.new.self c.pop-number.ensures.rest)
