use Rattle.std.proofs.Common.{refl, sym, subst, ap, ◌∙◌, ◌++◌, ◌∷◌, [], take}
use Rattle.std.proofs.lemmas.List.{take_more, take_all, map-append}
use Rattle.pt_case.specs.Ending.{is_failure}
use Rattle.pt_engine.specs.Outcome.{AreRecords, flags_of}
use Rattle.pt_engine.proofs.LeastLemmas.{records-push}
use Rattle.pt_engine.proofs.stored.replay_stored.Goals as goal

pub loop-list-init : goal.loop-list-init
loop-list-init g c = ([], refl, c.empty-failing.ensures, refl)

pub loop-list-preserved : goal.loop-list-preserved
loop-list-preserved g c =
    let step = g.C.Check.step c.args.check.now in
    let so_far = c.loop-list.invariant in
    let rec = c.in_ok-rec.rec in
    let items = c.as_slice-list-items.ensures in
    let within = rw items at c.loop-list-test.true in
    let item = rw items at c.list-item.is in
    let next = take_more c.args.stored.now c.loop-list.list-index c.list-item.result within ∙ ap (λ l. take c.loop-list.list-index c.args.stored.now ++ l ∷ []) (sym item) in (
      so_far.0 ++ rec ∷ [],
      subst (λ lists. AreRecords step lists (so_far.0 ++ rec ∷ [])) (sym next)
          (records-push step (take c.loop-list.list-index c.args.stored.now) c.list-item.result so_far.0 rec so_far.1 c.in_ok-rec.ensures),
      c.in_ok-push.ensures.ok ∙ ap (λ flags. flags ++ c.is_failure.result ∷ []) so_far.2 ∙ ap (λ flag. flags_of so_far.0 ++ flag ∷ []) c.is_failure.ensures
          ∙ sym (map-append (λ r. is_failure r.ending) so_far.0 (rec ∷ [])),
      c.lower-least.ensures so_far.0 so_far.3,
    )

pub returns : goal.returns
returns g c =
    let step = g.C.Check.step c.args.check.now in
    let so_far = c.loop-list.invariant in
    let past = rw c.as_slice-list-items.ensures at c.loop-list-test.false in
    (so_far.0, subst (λ lists. AreRecords step lists so_far.0) (take_all c.loop-list.list-index c.args.stored.now past) so_far.1, so_far.2, so_far.3)
