use Rattle.std.proofs.Common.{◌<◌, ◌+◌, Some, None, [], ◌∷◌, take, drop, get_or, length, sym, ◌∙◌, ap, arith, refl}
use Rattle.std.proofs.lemmas.Option.{slice_get-get_or}
use Rattle.pt_case.specs.declared.span.Span.{Span}
use Rattle.pt_cand.specs.Descend.{is_among}
use Rattle.pt_cand.specs.Left.{known_after}
use Rattle.pt_cand.proofs.DescendLemmas.{at_most, one_up, parent-less}
use Rattle.pt_cand.proofs.descend.is_below.Goals as goal

pub returns-then-number-outer : goal.returns-then-number-outer
returns-then-number-outer c = λ d.
    let number = c.from-number.result in
    let known = known_after (c.args.outer ∷ []) (c.args.outer + 1) (take c.args.inner (drop (c.args.outer + 1) c.args.best.now.spans)) in
    at_most c.args.outer c.args.best.now.spans c.args.inner d c.requires number c.if-number-outer.true
    ∙ ap (λ n. is_among known (Some n)) c.from-number.ensures ∙ ap (is_among known) (sym c.in-Some.is) ∙ sym (c.loop-parent.invariant.1 d)

pub loop-parent-smaller : goal.loop-parent-smaller
loop-parent-smaller c =
    let e : Span = record { label = 0; from = 0; to = 0; parent = None } in
    let number = c.from-number.result in
    let is = c.in-Some.is ∙ ap (λ n. Some n) (sym c.from-number.ensures) in
    let reached = c.loop-parent.invariant.2 number is in
    let low : number < length c.args.best.now.spans = omega (arith, reached, c.requires) in
    let earlier = (c.args.best.now.placed number (get_or c.args.best.now.spans number e) (slice_get-get_or c.args.best.now.spans number e low)).earlier in
    rw c.as_slice-spans.ensures (parent-less c.loop-parent.parent (get_or c.args.best.now.spans number e).parent number is earlier)

pub loop-parent-preserved : goal.loop-parent-preserved
loop-parent-preserved c =
    let e : Span = record { label = 0; from = 0; to = 0; parent = None } in
    let number = c.from-number.result in
    let known = known_after (c.args.outer ∷ []) (c.args.outer + 1) (take c.args.inner (drop (c.args.outer + 1) c.args.best.now.spans)) in
    let is = c.in-Some.is ∙ ap (λ n. Some n) (sym c.from-number.ensures) in
    let reached = c.loop-parent.invariant.2 number is in
    let low : number < length c.args.best.now.spans = omega (arith, reached, c.requires) in
    let earlier = (c.args.best.now.placed number (get_or c.args.best.now.spans number e) (slice_get-get_or c.args.best.now.spans number e low)).earlier in
    rw c.as_slice-spans.ensures (
      refl,
      (λ d. c.loop-parent.invariant.1 d ∙ ap (is_among known) is ∙ one_up c.args.outer c.args.best.now.spans c.args.inner e c.requires number c.if-number-outer.false reached earlier),
      (λ k next. let less = earlier k next in omega (arith, less, reached)),
    )
