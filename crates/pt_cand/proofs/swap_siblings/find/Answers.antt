use Rattle.std.proofs.Common.{◌≤◌, ◌+◌, None, get_or, sym, ◌∙◌, ap, subst, drop}
use Rattle.std.specs.List.{find}
use Rattle.std.proofs.lemmas.List.{take_rest}
use Rattle.std.proofs.lemmas.Option.{slice_get-get_or}
use Rattle.pt_case.specs.declared.span.Span.{Span}
use Rattle.pt_cand.specs.SwapSiblings.{are_siblings}
use Rattle.pt_cand.proofs.SwapLemmas.{later-placed}
use Rattle.pt_cand.proofs.swap_siblings.find.Goals as goal

pub is_lower-requires : goal.is_lower-requires
is_lower-requires c =
    let e : Span = record { label = 0; from = 0; to = 0; parent = None } in
    let spans = c.as_slice-spans.result.now in
    let best = c.args.best.now in
    let here = c.as_slice-spans.ensures in
    let test = are_siblings (get_or spans c.args.at.place e) in
    let found = ap (λ s. find test s) (ap (λ s. drop (c.args.at.place + 1) s) (sym here) ∙ sym (take_rest spans (c.args.at.place + 1))) ∙ sym c.next_sibling.ensures ∙ c.in_ok-other.was in
    let other = (later-placed best (c.args.at.place + 1) test c.in_ok-other.other found).1 in
    let one = best.placed c.args.at.place (get_or best.spans c.args.at.place e) (slice_get-get_or best.spans c.args.at.place e c.requires) in
    rw (c.as_slice.ensures, here) (record {
      begins = one.begins;
      behind = subst (λ s. (get_or s c.args.at.place e).to ≤ c.in_ok-other.other.from) here c.if-one-other-2.true;
      ends = other.begins;
      within = other.ends;
    })
