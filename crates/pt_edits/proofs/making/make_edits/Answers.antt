use Rattle.std.proofs.Common.{◌≡◌, true, false, [], ◌∷◌, ◌++◌, List, map, take, drop, suc, sym, ◌∙◌, ap, subst, append_assoc}
use Rattle.pt_disk.specs.Moments.{BothTell}
use Rattle.pt_stored.specs.Digest.{digest_text}
use Rattle.pt_edits.specs.Clash.{ClashesIn}
use Rattle.pt_edits.specs.Made.{Made}
use Rattle.pt_edits.specs.Pairs.{PairEdit, under}
use Rattle.pt_edits.proofs.ClashLemmas.{clashes-among}
use Rattle.pt_edits.proofs.MadeLemmas.{both-made-then, both-made-first}
use Rattle.pt_edits.proofs.Splits.{split-map, map-next}
use Rattle.pt_edits.proofs.making.make_edits.Goals as goal

pub loop-edit-preserved : goal.loop-edit-preserved
loop-edit-preserved g c =
    let before = c.loop-edit.invariant in
    let pair = under (digest_text c.args.key.now) in
    let items = c.as_slice-edit-items.result.now in
    let i = c.loop-edit.edit-index in
    let edit = c.edit-item.result in
    let told = g.D.Disk.tells c.args.store.now.disk.now in
    let mid = g.D.Disk.tells c.loop-edit.store.disk.now in
    let new = g.D.Disk.tells c.make_edit.new.store.disk.now in
    record {
      reference = c.in-Ok.ensures.same_reference ∙ before.reference;
      made = subst (λ (l : List PairEdit). BothTell (Made l true) told new) (sym (map-next items i edit c.loop-edit-test.true c.edit-item.is pair))
          (both-made-then (map pair (take i items)) (pair edit ∷ []) true told mid new before.made c.in-Ok.ensures.made);
      quiet = c.in-Ok.ensures.cause.quiet (λ is. cc is) ∙ before.quiet;
      lives = c.in-Ok.ensures.alive;
    }

pub returns-in-Err-clause-made : goal.returns-in-Err-clause-made
returns-in-Err-clause-made g c =
    let before = c.loop-edit.invariant in
    let pair = under (digest_text c.args.key.now) in
    let items = c.as_slice-edit-items.result.now in
    let i = c.loop-edit.edit-index in
    let edit = c.edit-item.result in
    let told = g.D.Disk.tells c.args.store.now.disk.now in
    let mid = g.D.Disk.tells c.loop-edit.store.disk.now in
    let new = g.D.Disk.tells c.make_edit.new.store.disk.now in
    let first = map pair (take i items) in
    let after = map pair (drop (suc i) items) in
    let parts : map pair c.args.edits.now ≡ first ++ pair edit ∷ after = ap (map pair) (sym c.as_slice-edit-items.ensures) ∙ split-map items i edit c.loop-edit-test.true c.edit-item.is pair in
    subst (λ (l : List PairEdit). BothTell (Made l false) told new) (sym (parts ∙ sym (append_assoc first (pair edit ∷ []) after)))
    (both-made-first (first ++ pair edit ∷ []) after told new (both-made-then first (pair edit ∷ []) false told mid new before.made c.in-Err.ensures.made))

pub returns-in-Err-clause-clash : goal.returns-in-Err-clause-clash
returns-in-Err-clause-clash g c =
    let pair = under (digest_text c.args.key.now) in
    let items = c.as_slice-edit-items.result.now in
    let i = c.loop-edit.edit-index in
    let edit = c.edit-item.result in
    let told = g.D.Disk.tells c.args.store.now.disk.now in
    let first = map pair (take i items) in
    let after = map pair (drop (suc i) items) in
    let parts : map pair c.args.edits.now ≡ first ++ pair edit ∷ after = ap (map pair) (sym c.as_slice-edit-items.ensures) ∙ split-map items i edit c.loop-edit-test.true c.edit-item.is pair in
    subst (λ (l : List PairEdit). ClashesIn l told c.in-Err.stop) (sym parts)
    (clashes-among first (pair edit ∷ []) after told (g.D.Disk.tells c.loop-edit.store.disk.now) c.in-Err.stop c.loop-edit.invariant.made c.in-Err.ensures.clash)
