use Rattle.std.proofs.Common.{◌≡◌, length, sym, ◌∙◌, ap, arith}
use Rattle.pt_choice.specs.Limits.{IsInLimits}
use Rattle.pt_case.proofs.KeptLemmas.{kept-drawn}
use Rattle.pt_case.proofs.case.Case.draw.Goals as goal

pub invariant_of-self-in-Ok : goal.invariant_of-self-in-Ok
invariant_of-self-in-Ok c =
    let was = c.self-2.invariant in
    let inside = c.self-2.inside in
    let same : length inside.choices.items ≡ length c.self.inside.choices.items =
    ap (λ case. length case.choices) (c.self-2.view_is ∙ sym c.self.view_is) in
    let limits : IsInLimits c.in_ok-copy-in-Ok.field-0 = rw c.in_ok-copy-in-Ok.ensures.same c.stays_in_limits.ensures in
    let kept = kept-drawn inside.choices.items inside.regions.items inside.innermost c.in_ok-copy-in-Ok.field-0 was.4
    (omega (arith, same, c.if-len-eq-MAX_CHOICES.false)) limits in
    (omega arith, was.1, was.2, was.3, rw c.push_reserved.ensures.items kept)
