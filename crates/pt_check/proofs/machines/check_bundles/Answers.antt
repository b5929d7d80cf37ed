use Rattle.std.proofs.Common.{◌≡◌, ◌+◌, Ok, Err, ◌∷◌, ◌++◌, [], map, take, drop, sym, ◌∙◌, ap, rules, arith}
use Rattle.pt_ast.specs.Trees.{BundleTree}
use Rattle.pt_ast.specs.Names.{type_in, with_name}
use Rattle.pt_ast.specs.Plain.{plain_type, plain_bundle}
use Rattle.pt_typing.specs.Steps.{next_to, vacant}
use Rattle.pt_typing.specs.SuiteChecks.{fresh, each_named}
use Rattle.pt_check.specs.Known.{Known, top, holding, released, with_bundles}
use Rattle.pt_check.proofs.Turns.{hands-on, blames-same, blames-next}
use Rattle.pt_check.proofs.MachineTurns.{fresh-vacant, bundle-turn, bundles-more}
use Rattle.pt_check.proofs.machines.check_bundles.Goals as goal

pub returns-in_err-add_bundle-clause-says : goal.returns-in_err-add_bundle-clause-says
returns-in_err-add_bundle-clause-says c =
    let so = c.loop-bundle.invariant in
    let bundle = c.bundle-item.result in
    let bundles = c.args.bundles.now in
    let index = c.loop-bundle.bundle-index in
    let why = c.in_err-add_bundle.field-0.0 in
    let done = map plain_bundle (take index bundles) in
    let names = map (λ (b : BundleTree). b.name.name) done in
    let held = c.hold_type.new.checker in
    let there : held.context.bundles ≡ map (λ (b : BundleTree). (b.name.name, b.type)) done =
    ap (λ (k : Known). k.context.bundles) (c.in_ok-hold_type.ensures ∙ ap (λ k. holding k (plain_type bundle.ty)) so.0) in
    let met : fresh names bundle.name ≡ vacant bundle.name.at (type_in bundle.name.name held.context.bundles) =
    fresh-vacant bundle.name done ∙ ap (λ s. vacant bundle.name.at (type_in bundle.name.name s)) (sym there) in
    let turn = bundle-turn names bundles index bundle (omega arith) c.bundle-item.is in
    let gave : c.from_residual-in_err-add_bundle.result ≡ Err why = search rules in
    hands-on _ _ _ why gave (blames-same _ _ why (so.1 ∙ turn) (blames-next (fresh names bundle.name) _ why (blames-same _ _ why met c.in_err-add_bundle.ensures.says)))

pub loop-bundle-preserved : goal.loop-bundle-preserved
loop-bundle-preserved c =
    let so = c.loop-bundle.invariant in
    let old = c.args.checker.now in
    let bundle = c.bundle-item.result in
    let bundles = c.args.bundles.now in
    let index = c.loop-bundle.bundle-index in
    let type = plain_type bundle.ty in
    let done = map plain_bundle (take index bundles) in
    let names = map (λ (b : BundleTree). b.name.name) done in
    let pairs = map (λ (b : BundleTree). (b.name.name, b.type)) done in
    let held = c.hold_type.new.checker in
    let held_is : held ≡ holding (with_bundles old pairs) type = c.in_ok-hold_type.ensures ∙ ap (λ k. holding k type) so.0 in
    let met : fresh names bundle.name ≡ vacant bundle.name.at (type_in bundle.name.name held.context.bundles) =
    fresh-vacant bundle.name done ∙ ap (λ s. vacant bundle.name.at (type_in bundle.name.name s)) (sym (ap (λ (k : Known). k.context.bundles) held_is)) in
    let left = map plain_bundle (drop (index + 1) bundles) in
    let turn = bundle-turn names bundles index bundle (omega arith) c.bundle-item.is in (
      c.in_ok-add_bundle.ensures.adds
          ∙ ap (λ (k : Known). with_bundles (released k) (with_name k.context.bundles bundle.name (top k))) held_is
          ∙ ap (with_bundles old) (sym (bundles-more (λ (b : BundleTree). (b.name.name, b.type)) bundles index bundle (omega arith) c.bundle-item.is)),
      so.1 ∙ turn
          ∙ ap (λ f. next_to f (each_named (λ (b : BundleTree). b.name) (λ b. Ok tt) (names ++ bundle.name.name ∷ []) left)) (met ∙ c.in_ok-add_bundle.ensures.says)
          ∙ ap (λ seen. each_named (λ (b : BundleTree). b.name) (λ b. Ok tt) seen left)
          (sym (bundles-more (λ (b : BundleTree). b.name.name) bundles index bundle (omega arith) c.bundle-item.is)),
    )
