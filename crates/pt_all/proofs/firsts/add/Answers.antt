use Rattle.std.proofs.Common.{◌≡◌, ◌<◌, true, length, sym, ap, subst, ◌∙◌, refl, arith}
use Rattle.std.proofs.lemmas.Option.{slice_get_read}
use Rattle.pt_all.specs.Origins.{same_ending}
use Rattle.pt_all.specs.Progress.{with_failure}
use Rattle.pt_all.proofs.FirstsLemmas.{written-again}
use Rattle.pt_all.proofs.firsts.add.Goals as goal

pub returns-then-is_alike : goal.returns-then-is_alike
returns-then-is_alike c =
    let firsts = c.loop-place.firsts.items in
    let place = c.loop-place.place in
    let within : place < length firsts = omega (arith, c.loop-place.firsts.ok) in
    let one = slice_get_read firsts (length firsts) place c.index_mut.result.now refl within c.index_mut.ensures.value in
    let other = slice_get_read firsts (length firsts) place c.index.result.now refl within c.index.ensures in
    let first : c.index.result.now ≡ c.index_mut.result.now = cc in
    let same : same_ending c.index_mut.result.now.rec.ending c.args.rec.now.ending ≡ true =
    subst (λ first. same_ending first.rec.ending c.args.rec.now.ending ≡ true) first (sym c.is_alike.ensures ∙ c.if-is_alike.true) in
    written-again c.args.run c.args.rec.now firsts place c.index_mut.result.now within c.index_mut.ensures.value same c.loop-place.invariant.1
    ∙ ap (λ (f : _). with_failure c.args.run c.args.rec.now f.items) c.loop-place.invariant.0
