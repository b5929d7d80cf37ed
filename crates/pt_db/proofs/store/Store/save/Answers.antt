use Rattle.std.proofs.Common.{◌∙◌, sym, subst, List, ℕ, Some, is_ok}
use Rattle.pt_disk.specs.Moments.{BothTell}
use Rattle.pt_stored.specs.Digest.{digest_text, file_name}
use Rattle.pt_stored.specs.Stored.{StoredWith}
use Rattle.pt_stored.proofs.Digests.{is-digest}
use Rattle.pt_stored.proofs.SetLemmas.{not-pending}
use Rattle.pt_db.specs.Editing.{saved_as}
use Rattle.pt_db.specs.Reading.{Holds, IsFree}
use Rattle.pt_db.specs.Writing.{Reached}
use Rattle.pt_db.proofs.Saving.{saved-new, saved-already, gave-none}
use Rattle.pt_db.proofs.store.Store.save.Goals as goal

pub returns-in-Ok-true-clause-edits : goal.returns-in-Ok-true-clause-edits
returns-in-Ok-true-clause-edits g c =
    let digest = digest_text c.args.key.now in
    let value = c.args.value.now in
    let key = is-digest c.args.key.now in
    let told = g.D.Disk.tells c.args.self.now.disk.now in
    saved-already digest value key (not-pending digest value key) told _ c.requires c.in-Ok-true.ensures.rests
    (subst (λ (n : List ℕ). Holds told n value) (c.as_slice.ensures ∙ c.in_ok-name.ensures) (c.in-Ok-true.ensures.held c.in-Ok-true.field-0-test).0)

pub write-requires : goal.write-requires
write-requires g c = λ same.
    not-pending (digest_text c.args.key.now) c.args.value.now (is-digest c.args.key.now) (sym (c.as_slice-in-Ok-false.ensures ∙ c.in_ok-name.ensures) ∙ same)

pub returns-in-Ok-false-clause-edits : goal.returns-in-Ok-false-clause-edits
returns-in-Ok-false-clause-edits g c =
    let digest = digest_text c.args.key.now in
    let value = c.args.value.now in
    let key = is-digest c.args.key.now in
    let told = g.D.Disk.tells c.args.self.now.disk.now in
    let mid = g.D.Disk.tells c.holds.new.self.disk.now in
    let new = g.D.Disk.tells c.write.new.self.disk.now in
    saved-new digest value key (not-pending digest value key) (is_ok c.write.result) told mid new c.requires c.in-Ok-false.ensures.rests
    (subst (λ (n : List ℕ). IsFree told n value) (c.as_slice.ensures ∙ c.in_ok-name.ensures) (c.in-Ok-false.ensures.free c.in-Ok-false.field-0-test))
    (subst (λ (n : List ℕ). BothTell (Reached n (Some value) (saved_as n value) (is_ok c.write.result)) mid new) (c.as_slice-in-Ok-false.ensures ∙ c.in_ok-name.ensures) c.write.ensures.written)

pub returns-clause-edits : goal.returns-clause-edits
returns-clause-edits g c =
    let digest = digest_text c.args.key.now in
    gave-none (StoredWith digest c.args.value.now) (file_name digest c.args.value.now) (Some c.args.value.now) (g.D.Disk.tells c.args.self.now.disk.now) _ c.in-Err.ensures.rests
