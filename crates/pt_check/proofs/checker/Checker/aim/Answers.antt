use Rattle.std.proofs.Common.{Some, ap, sym, ◌∙◌}
use Rattle.pt_ast.specs.Types.{TypeTree}
use Rattle.pt_typing.specs.Steps.{known, made_of}
use Rattle.pt_typing.specs.SuiteChecks.{target_of}
use Rattle.pt_check.specs.Known.{Known}
use Rattle.pt_check.proofs.Lookups.{found-type, lost-type, lookup-within}
use Rattle.pt_check.proofs.Views.{target-tied}
use Rattle.pt_check.proofs.checker.Checker.aim.Goals as goal

pub invariant_of-self-in-Some-find : goal.invariant_of-self-in-Some-find
invariant_of-self-in-Some-find c =
    let i = c.self.inside in
    target-tied i c.in-Some-find.number c.self.invariant
    (lookup-within i.types i.bundles c.in-Some.bundle.name c.in-Some-find.number c.self.invariant.of_bundles (sym c.find.ensures ∙ c.in-Some-find.is))

pub returns-in-Some-find-clause-says : goal.returns-in-Some-find-clause-says
returns-in-Some-find-clause-says c =
    let i = c.self.inside in
    let bundles = c.args.self.now.context.bundles in
    let bundle = c.in-Some.bundle in
    ap (target_of bundles) c.in-Some.is
    ∙ ap (λ found. made_of {A = TypeTree} Some (known bundle.at found))
    (found-type i.types i.bundles bundles bundle.name c.in-Some-find.number (ap (λ (k : Known). k.context.bundles) c.self.view_is) (sym c.find.ensures ∙ c.in-Some-find.is))

pub returns-in-None-find-clause-says : goal.returns-in-None-find-clause-says
returns-in-None-find-clause-says c fault unknown =
    let i = c.self.inside in
    let bundles = c.args.self.now.context.bundles in
    let bundle = c.in-Some.bundle in
    let lost = ap (target_of bundles) c.in-Some.is
    ∙ ap (λ found. made_of {A = TypeTree} Some (known bundle.at found))
    (lost-type i.types i.bundles bundles bundle.name (ap (λ (k : Known). k.context.bundles) c.self.view_is) (sym c.find.ensures ∙ c.in-None-find.is)) in
    cc
