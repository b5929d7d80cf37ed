use Rattle.std.proofs.Common.{◌≡◌, Ok, [], map, take, drop}
use Rattle.pt_ast.specs.Plain.{plain_bundle}
use Rattle.pt_typing.specs.SuiteChecks.{each_named}
use Rattle.pt_check.specs.Known.{with_bundles}
use Rattle.pt_check.proofs.machines.check_bundles.Given as goal

-- the bundles so far are there
abbrev pub invariant-loop-bundle : goal.invariant-loop-bundle
invariant-loop-bundle l = (l.checker ≡ with_bundles l.fn.checker (map (λ bundle. (bundle.name.name, bundle.type)) (map plain_bundle (take l.bundle-index l.bundles))))
    × (each_named (λ bundle. bundle.name) (λ bundle. Ok tt) [] (map plain_bundle l.bundles)
    ≡ each_named (λ bundle. bundle.name) (λ bundle. Ok tt) (map (λ bundle. bundle.name.name) (map plain_bundle (take l.bundle-index l.bundles))) (map plain_bundle (drop l.bundle-index l.bundles)))
