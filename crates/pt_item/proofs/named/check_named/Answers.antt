use Rattle.std.proofs.Common.{◌≡◌, ℕ, Some, ◌∙◌, ap, below_more, arith}
use Rattle.std.specs.List.{slice_get}
use Rattle.std.proofs.lemmas.Option.{get_or_from_slice_get}
use Rattle.pt_item.proofs.NamedLemmas.{named-at, same-word}
use Rattle.pt_item.proofs.named.check_named.Goals as goal

pub loop-check-preserved : goal.loop-check-preserved
loop-check-preserved g c place check within is named =
    let name = g.C.Check.name in
    let checks = c.args.checks.now in
    let NotNamed = λ (k : ℕ). (check : _) → slice_get checks k ≡ Some check → name check ≡ c.args.name.now → ⊥ in
    below_more NotNamed c.loop-check.check-index
    (λ k below check is named. c.loop-check.invariant k check below is named)
    (λ check is named.
    let this = c.check-item.is ∙ get_or_from_slice_get checks c.loop-check.check-index check c.check-item.result is in
    let same = same-word c.name.result.now c.args.name.now (c.name.ensures ∙ ap name this ∙ named) in
    cc)
    place within check is named

pub unreachable-requires : goal.unreachable-requires
unreachable-requires g c =
    let found = named-at g.C.Check.name c.args.checks.now c.args.name.now c.requires in
    c.loop-check.invariant found.0 found.1 (omega (arith, found.2, c.loop-check-test.false)) found.3 found.4
