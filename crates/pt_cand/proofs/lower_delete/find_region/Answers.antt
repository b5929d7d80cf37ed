use Rattle.std.proofs.Common.{◌≡◌, ◌<◌, ◌≤◌, None, get_or, unsigned_abs, true, length, sym, ◌∙◌, subst}
use Rattle.std.proofs.lemmas.Bool.{lt-ltb}
use Rattle.std.proofs.lemmas.Int.{to_z-of_z}
use Rattle.std.proofs.lemmas.Option.{slice_get-get_or}
use mir.Syntax.{w128}
use mir.Val.{SFits}
use Rattle.pt_choice.specs.Limits.{IsInLimits}
use Rattle.pt_choice.specs.declared.choice.Choice.TheVariants as choice
use Rattle.pt_case.specs.declared.span.Span.{Span}
use Rattle.pt_cand.proofs.FindLemmas.{less-at_end, less-at_found}
use Rattle.pt_cand.proofs.RegionLemmas.{is_own}
use Rattle.pt_cand.proofs.lower_delete.find_region.Goals as goal

pub nearer-less-requires : goal.nearer-less-requires
nearer-less-requires c =
    let d = choice.Int c.args.value in
    rw (to_z-of_z w128 c.args.value c.ranges.value)
    (subst (λ member. IsInLimits member) (c.requires.given d) (c.args.best.now.in_limits c.args.at.place d c.requires.within))

pub returns-then-is_new : goal.returns-then-is_new
returns-then-is_new c =
    let d = choice.Int c.args.value in
    let e : Span = record { label = 0; from = 0; to = 0; parent = None } in
    let spans = c.args.best.now.spans in
    let here = c.as_slice-spans.ensures in
    let nonzero = lt-ltb 0 (unsigned_abs c.args.value) c.requires.nonzero in
    let low = subst (λ s. c.loop-number.number < length s) here c.loop-number-test.true in
    let before = subst (λ s. c.args.at.place < (get_or s c.loop-number.number e).from) here (subst (λ n. c.args.at.place < n) c.from.ensures c.if-at-from.true) in
    let later = lt-ltb c.args.at.place (get_or spans c.loop-number.number e).from before in
    let own = subst (λ s. is_own s c.loop-number.number (get_or s c.loop-number.number e) ≡ true) here (sym c.is_new.ensures ∙ c.if-is_new.true) in
    let order = (c.args.best.now.placed c.loop-number.number (get_or spans c.loop-number.number e) (slice_get-get_or spans c.loop-number.number e low)).begins in
    let fits : SFits w128 c.nearer-less.result = record { sfits = c.nearer-less.type_inv } in
    rw (to_z-of_z w128 c.nearer-less.result fits, c.nearer-less.ensures, to_z-of_z w128 c.args.value c.ranges.value, here, c.past.ensures)
    (c.loop-number.invariant.1
    ∙ less-at_found c.args.best.now c.args.at d c.requires.within c.args.value (c.requires.given d) nonzero c.loop-number.number e low before order later own)

pub returns : goal.returns
returns c =
    let d = choice.Int c.args.value in
    let nonzero = lt-ltb 0 (unsigned_abs c.args.value) c.requires.nonzero in
    c.loop-number.invariant.1
    ∙ less-at_end c.args.best.now c.args.at d c.requires.within c.args.value (c.requires.given d) nonzero c.loop-number.number
    (subst (λ s. length s ≤ c.loop-number.number) c.as_slice-spans.ensures c.loop-number-test.false)
