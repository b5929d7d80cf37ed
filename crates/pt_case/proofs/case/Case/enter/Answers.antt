use Rattle.std.proofs.Common.{◌≡◌, None, length, refl, sym, ◌∙◌, ap, arith}
use Rattle.pt_case.specs.declared.region.Region.{Region}
use Rattle.pt_case.proofs.KeptLemmas.{kept-entered}
use Rattle.pt_case.proofs.case.Case.enter.Goals as goal

pub invariant_of-self : goal.invariant_of-self
invariant_of-self c =
    let was = c.self-2.invariant in
    let inside = c.self-2.inside in
    let same : length inside.regions.items ≡ length c.self.inside.regions.items =
    ap (λ case. length case.regions) (c.self-2.view_is ∙ sym c.self.view_is) in
    let region : Region = record { label = c.args.label; from = c.len-2.result; to = None; parent = inside.innermost } in
    let kept = kept-entered inside.choices.items inside.regions.items inside.innermost region was.4
    (omega (arith, same, c.if-len-eq-MAX_SPANS.false)) (omega arith) refl refl in
    let number : c.len-number.result ≡ length inside.regions.items = omega arith in
    (was.0, omega arith, was.2, was.3, rw (c.push_reserved.ensures.items, number) kept)
