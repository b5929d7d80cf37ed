use Rattle.std.proofs.Common.{◌∙◌, subst, List, ℕ, None, is_ok}
use Rattle.pt_disk.specs.Moments.{BothTell, Elapsed}
use Rattle.pt_stored.specs.Digest.{digest_text, file_name}
use Rattle.pt_stored.specs.Stored.{IsStored, StoredWithout}
use Rattle.pt_stored.proofs.Digests.{is-digest}
use Rattle.pt_stored.proofs.SetLemmas.{not-pending}
use Rattle.pt_db.specs.Editing.{removed}
use Rattle.pt_db.specs.Reading.{Holds, IsFree}
use Rattle.pt_db.specs.Writing.{Reached}
use Rattle.pt_db.proofs.Telling.{IsAsAt}
use Rattle.pt_db.proofs.Saving.{deleted-old, deleted-absent, gave-none, rests-never, held-always}
use Rattle.pt_db.proofs.store.Store.delete.Goals as goal

pub returns-in-Ok-true-clause-edits : goal.returns-in-Ok-true-clause-edits
returns-in-Ok-true-clause-edits g c =
    let digest = digest_text c.args.key.now in
    let value = c.args.value.now in
    let key = is-digest c.args.key.now in
    let told = g.D.Disk.tells c.args.self.now.disk.now in
    let mid = g.D.Disk.tells c.holds.new.self.disk.now in
    let new = g.D.Disk.tells c.erase.new.self.disk.now in
    deleted-old digest value key (not-pending digest value key) (is_ok c.erase.result) told mid new c.in-Ok-true.ensures.rests
    (subst (λ (n : List ℕ). Holds told n value) (c.as_slice.ensures ∙ c.in_ok-name.ensures) (c.in-Ok-true.ensures.held c.in-Ok-true.field-0-test).0)
    (subst (λ (n : List ℕ). BothTell (Reached n None (removed n) (is_ok c.erase.result)) mid new) (c.as_slice-in-Ok-true.ensures ∙ c.in_ok-name.ensures) c.erase.ensures.written)

pub returns-in-Ok-true-clause-unwritten : goal.returns-in-Ok-true-clause-unwritten
returns-in-Ok-true-clause-unwritten g c =
    let digest = digest_text c.args.key.now in
    let value = c.args.value.now in
    let key = is-digest c.args.key.now in
    let told = g.D.Disk.tells c.args.self.now.disk.now in
    let n = c.as_slice-in-Ok-true.result.now in
    let held = c.in-Ok-true.ensures.held c.in-Ok-true.field-0-test in
    rests-never (λ files. ¬ IsStored files digest value) (λ old new. Elapsed (IsAsAt old) old new) (Reached n None (removed n) (is_ok c.erase.result)) told
    (g.D.Disk.tells c.holds.new.self.disk.now) (g.D.Disk.tells c.erase.new.self.disk.now) c.in-Ok-true.ensures.rests c.erase.ensures.written
    (held-always digest value key (not-pending digest value key) told
    (subst (λ (n : List ℕ). Holds told n value) (c.as_slice.ensures ∙ c.in_ok-name.ensures) held.0) held.1)

pub returns-in-Ok-false-clause-edits : goal.returns-in-Ok-false-clause-edits
returns-in-Ok-false-clause-edits g c =
    let digest = digest_text c.args.key.now in
    let value = c.args.value.now in
    let key = is-digest c.args.key.now in
    let told = g.D.Disk.tells c.args.self.now.disk.now in
    deleted-absent digest value key (not-pending digest value key) told _ c.in-Ok-false.ensures.rests
    (subst (λ (n : List ℕ). IsFree told n value) (c.as_slice.ensures ∙ c.in_ok-name.ensures) (c.in-Ok-false.ensures.free c.in-Ok-false.field-0-test))

pub returns-clause-edits : goal.returns-clause-edits
returns-clause-edits g c =
    let digest = digest_text c.args.key.now in
    gave-none (StoredWithout digest c.args.value.now) (file_name digest c.args.value.now) None (g.D.Disk.tells c.args.self.now.disk.now) _ c.in-Err.ensures.rests
