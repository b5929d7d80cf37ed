use Rattle.std.proofs.Common.{◌≡◌, [], ◌∷◌, List, ℕ, is_ok, refl, sym, ◌∙◌, ap, subst}
use Rattle.std.specs.Prelude.{IfErr}
use Rattle.pt_disk.specs.Moments.{BothTell}
use Rattle.pt_stored.specs.Digest.{digest_text}
use Rattle.pt_stored.specs.Stored.{StoredWith, StoredWithout}
use Rattle.pt_edits.specs.Clash.{ClashesIn}
use Rattle.pt_edits.specs.Made.{Made}
use Rattle.pt_edits.specs.Pairs.{SavePair, DeletePair, under}
use Rattle.pt_edits.specs.declared.edit.Edit.{Edit}
use Rattle.pt_edits.specs.declared.edit.Edit.TheVariants.{Save, Delete}
use Rattle.pt_edits.proofs.EditLemmas.{answer-made, answer-clash, saved-after, deleted-after}
use Rattle.pt_edits.proofs.making.make_edit.Goals as goal

pub returns-in-Save-clause-made : goal.returns-in-Save-clause-made
returns-in-Save-clause-made g c =
    let key = c.args.key.now in
    let digest = digest_text key in
    let value = c.as_slice.result.now in
    let told = g.D.Disk.tells c.args.store.now.disk.now in
    let new = g.D.Disk.tells c.save.new.self.disk.now in
    let is : c.args.edit.now ≡ Save value = c.in-Save.is ∙ ap (λ (v : List ℕ). Save v) (sym c.as_slice.ensures) in
    subst (λ (e : Edit). BothTell (Made (under digest e ∷ []) (is_ok c.answer_of.result)) told new) (sym is)
    (answer-made (StoredWith digest value) (SavePair digest value) (saved-after digest value) c.save.result c.answer_of.result told new c.answer_of.ensures c.save.ensures.edits)

pub returns-in-Save-clause-clash : goal.returns-in-Save-clause-clash
returns-in-Save-clause-clash g c =
    let key = c.args.key.now in
    let digest = digest_text key in
    let value = c.as_slice.result.now in
    let told = g.D.Disk.tells c.args.store.now.disk.now in
    let is : c.args.edit.now ≡ Save value = c.in-Save.is ∙ ap (λ (v : List ℕ). Save v) (sym c.as_slice.ensures) in
    subst (λ (e : Edit). IfErr c.answer_of.result (ClashesIn (under digest e ∷ []) told)) (sym is)
    (answer-clash key value (SavePair digest value) refl refl c.save.result c.answer_of.result told c.answer_of.ensures c.save.ensures.clash)

pub returns-in-Delete-clause-made : goal.returns-in-Delete-clause-made
returns-in-Delete-clause-made g c =
    let key = c.args.key.now in
    let digest = digest_text key in
    let value = c.as_slice-in-Delete.result.now in
    let told = g.D.Disk.tells c.args.store.now.disk.now in
    let new = g.D.Disk.tells c.delete.new.self.disk.now in
    let answer = c.answer_of-in-Delete.result in
    let is : c.args.edit.now ≡ Delete value = c.in-Delete.is ∙ ap (λ (v : List ℕ). Delete v) (sym c.as_slice-in-Delete.ensures) in
    subst (λ (e : Edit). BothTell (Made (under digest e ∷ []) (is_ok answer)) told new) (sym is)
    (answer-made (StoredWithout digest value) (DeletePair digest value) (deleted-after digest value) c.delete.result answer told new c.answer_of-in-Delete.ensures c.delete.ensures.edits)

pub returns-in-Delete-clause-clash : goal.returns-in-Delete-clause-clash
returns-in-Delete-clause-clash g c =
    let key = c.args.key.now in
    let digest = digest_text key in
    let value = c.as_slice-in-Delete.result.now in
    let told = g.D.Disk.tells c.args.store.now.disk.now in
    let answer = c.answer_of-in-Delete.result in
    let is : c.args.edit.now ≡ Delete value = c.in-Delete.is ∙ ap (λ (v : List ℕ). Delete v) (sym c.as_slice-in-Delete.ensures) in
    subst (λ (e : Edit). IfErr answer (ClashesIn (under digest e ∷ []) told)) (sym is)
    (answer-clash key value (DeletePair digest value) refl refl c.delete.result answer told c.answer_of-in-Delete.ensures c.delete.ensures.clash)
