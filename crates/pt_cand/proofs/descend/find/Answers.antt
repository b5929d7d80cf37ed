use Rattle.std.proofs.Common.{◌≡◌, ◌<◌, ◌≤◌, ◌+◌, None, true, false, get_or, length, sym, ◌∙◌, subst, arith}
use Rattle.std.proofs.lemmas.Bool.{and_from, and_left, and_right}
use Rattle.pt_case.specs.declared.span.Span.{Span}
use Rattle.pt_cand.specs.Descend.{may_replace}
use Rattle.pt_cand.proofs.FindLemmas.{goes-found, goes-passed, goes-end}
use Rattle.pt_cand.proofs.descend.find.Goals as goal
use Rattle.pt_cand.proofs.descend.find.Goals.{else-may_replace-via-then-may_replace+else-is_below, else-may_replace-via-else-may_replace}

pub returns-then-is_below : goal.returns-then-is_below
returns-then-is_below c =
    let e : Span = record { label = 0; from = 0; to = 0; parent = None } in
    let here = c.as_slice-spans.ensures in
    let low : c.args.at.place + 1 + c.loop-inner.inner < length c.args.best.now.spans =
    subst (λ s. c.args.at.place + 1 + c.loop-inner.inner < length s) here (omega (arith, c.loop-inner-test.true)) in
    let may = subst (λ s. may_replace (get_or s c.args.at.place e) (get_or s (c.args.at.place + 1 + c.loop-inner.inner) e) ≡ true) here (sym c.may_replace.ensures ∙ c.if-may_replace.true) in
    let down = and_from _ _ may (sym (c.is_below.ensures e) ∙ c.if-is_below.true) in
    rw (here, c.past.ensures) (c.loop-inner.invariant.1 ∙ goes-found c.args.best.now c.args.at e c.requires c.loop-inner.inner low down)

pub loop-inner-preserved : goal.loop-inner-preserved
loop-inner-preserved c =
    let e : Span = record { label = 0; from = 0; to = 0; parent = None } in
    let here = c.as_slice-spans.ensures in
    let low : c.args.at.place + 1 + c.loop-inner.inner < length c.args.best.now.spans =
    subst (λ s. c.args.at.place + 1 + c.loop-inner.inner < length s) here (omega (arith, c.loop-inner-test.true)) in (
      here,
      elim c.else-may_replace.branch [
        | else-may_replace-via-then-may_replace+else-is_below w ↦
            c.loop-inner.invariant.1 ∙ goes-passed c.args.best.now c.args.at e c.requires c.loop-inner.inner low (and_right _ _ (sym (w.is_below.ensures e) ∙ w.if-is_below.false))
        | else-may_replace-via-else-may_replace w ↦
            let may = subst (λ s. may_replace (get_or s c.args.at.place e) (get_or s (c.args.at.place + 1 + c.loop-inner.inner) e) ≡ false) here
            (sym c.may_replace.ensures ∙ w.if-may_replace.false) in
            c.loop-inner.invariant.1 ∙ goes-passed c.args.best.now c.args.at e c.requires c.loop-inner.inner low (and_left _ _ may)
      ],
    )

pub returns : goal.returns
returns c =
    let e : Span = record { label = 0; from = 0; to = 0; parent = None } in
    let high : length c.args.best.now.spans ≤ c.args.at.place + 1 + c.loop-inner.inner =
    subst (λ s. length s ≤ c.args.at.place + 1 + c.loop-inner.inner) c.as_slice-spans.ensures (omega (arith, c.loop-inner-test.false)) in
    c.loop-inner.invariant.1 ∙ goes-end c.args.best.now c.args.at e c.requires c.loop-inner.inner high
