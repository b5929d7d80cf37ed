-- What a disk in memory tells, as its changes grow.
use Rattle.std.proofs.Common.{◌≡◌, inr, ⊎_elim, ℕ, ◌+◌, List, [], ◌∷◌, ◌++◌, length, Bool, true, false, Some, Ok, Err, Result, is_ok, IsErr, IsErrOf, IsErrAnd, IfOk, refl, sym, ◌∙◌, ap, subst, arith, length-append}
use Rattle.std.proofs.lemmas.List.{take_all, take-append-le}
use Rattle.std.specs.Prelude.{if◌then◌else◌}
use Rattle.pt_disk.specs.Files.{Files, is_name}
use Rattle.pt_disk.specs.Folder.{Folder, Stable, After, IsImage, after_rename}
use Rattle.pt_disk.specs.Moments.{Told, now, Elapsed, IsWithin}
use Rattle.pt_disk.specs.Calls.{HasCause, Rests, Changed}
use Rattle.pt_disk.specs.DiskInMemory.{DiskInMemory, new_disk, content_of, folder_after, folder_of, shown, after_call, after_change, Answers, Makes}
use Rattle.pt_disk.specs.declared.change.Change.{Change}
use Rattle.pt_disk.specs.declared.change.Change.TheVariants.{Rename}
use Rattle.pt_disk.specs.declared.disk.DiskStop.{DiskStop}
use Rattle.pt_disk.specs.declared.disk.DiskStop.TheVariants.{Failed, NoMemory}
use Rattle.pt_disk.proofs.Times.{elapsed-none}

pub folder_after-push : (folder : Folder) (changes : List Change) (change : Change) → folder_after folder (changes ++ change ∷ []) ≡ After change (folder_after folder changes)
folder_after-push folder [] change = refl
folder_after-push folder (first ∷ changes) change = folder_after-push (After first folder) changes change

pub now-shown : (disk : DiskInMemory) → now (shown disk) ≡ folder_of disk.files disk.changes
now-shown disk = ap (λ (changes : List Change). folder_of disk.files changes) (take_all (length disk.changes) disk.changes (omega arith))

within-after : (before after : Folder) → IsWithin before after after
within-after before after = record { images = λ image left. inr left; unsynced = λ name unsynced. inr unsynced }

module _ (change : Change) (disk : DiskInMemory) where
  now-changed : now (shown (after_change change disk)) ≡ After change (now (shown disk))
  now-changed =
      now-shown (after_change change disk)
      ∙ folder_after-push (Stable (content_of disk.files)) disk.changes change
      ∙ ap (After change) (sym (now-shown disk))

  longer : length (disk.changes ++ change ∷ []) ≡ length disk.changes + 1
  longer = omega (arith, length-append disk.changes (change ∷ []))

  changed-change : Changed (After change) true (shown disk) (shown (after_change change disk))
  changed-change = record {
    done = λ ok. now-changed;
    moments = record {
      later = omega (arith, longer);
      kept = λ t past. ap (λ (changes : List Change). folder_of disk.files changes) (take-append-le t disk.changes (change ∷ []) past);
      since = λ t after within.
          let is : t ≡ length (disk.changes ++ change ∷ []) = omega (arith, longer, after, within) in
          subst (IsWithin (now (shown disk)) (After change (now (shown disk))))
          (sym (ap (λ (k : ℕ). (shown (after_change change disk)).moments k) is ∙ now-changed))
          (within-after (now (shown disk)) (After change (now (shown disk))));
    };
  }

pub changed-not : (change : Folder → Folder) (told : Told) → Changed change false told told
changed-not change told = record { done = λ ok. absurd (cc ok); moments = elapsed-none (IsWithin (now told) (change (now told))) told }

-- a call that made its change or failed does what the disk's contract says
pub makes-changed : (change : Change) (ok : Bool) (old new : DiskInMemory) → Makes change old ok new → Changed (After change) ok (shown old) (shown new)
makes-changed change true old new makes = subst (λ (d : DiskInMemory). Changed (After change) true (shown old) (shown d)) (sym makes.1) (changed-change change old)
makes-changed change false old new makes = ⊎_elim
    (λ failed. subst (λ (d : DiskInMemory). Changed (After change) false (shown old) (shown d)) (sym failed.1) (changed-not (After change) (shown old)))
    (λ starved. subst (λ (d : DiskInMemory). Changed (After change) false (shown old) (shown d)) (sym starved.1) (changed-not (After change) (shown old)))
    makes

-- the same of a call that changes nothing
module _ (old new : DiskInMemory) where
  same-told : shown new ≡ shown old → Rests (Some (shown old)) (Some (shown new))
  same-told same = subst (λ (told : Told). Elapsed (λ folder. folder ≡ now (shown old)) (shown old) told) (sym same) (elapsed-none (λ folder. folder ≡ now (shown old)) (shown old))

  pub answers-rests : {T : Type 0} (result : Result T DiskStop) → Answers old (IsErrOf result Failed) new → Rests (Some (shown old)) (Some (shown new))
  answers-rests (Ok answer) answers = same-told (ap shown (answers.answer (λ is. absurd (cc is))))
  answers-rests (Err Failed) answers = same-told (ap shown (answers.failure refl))
  answers-rests (Err NoMemory) answers = same-told (ap shown (answers.answer (λ is. absurd (cc is))))

  -- where the change is none
  changed-same : (change : Folder → Folder) (ok : Bool) → ((folder : Folder) → change folder ≡ folder) → shown new ≡ shown old → Changed change ok (shown old) (shown new)
  changed-same change ok same is = subst (λ (told : Told). Changed change ok (shown old) told) (sym is) (record {
    done = λ done. sym (same (now (shown old)));
    moments = elapsed-none (IsWithin (now (shown old)) (change (now (shown old)))) (shown old);
  })

  pub answers-changed : {E : Type 0} (change : Folder → Folder) (result : Result (Unit {0}) E) → ((folder : Folder) → change folder ≡ folder) →
      Answers old (IsErr result) new → Changed change (is_ok result) (shown old) (shown new)
  answers-changed change (Ok done) same answers = changed-same change true same (ap shown (answers.answer (λ is. absurd (cc is))))
  answers-changed change (Err fault) same answers = changed-same change false same (ap shown (answers.failure refl))

pub err-of : {B E : Type 0} {fault : E} (result : Result B E) → IsErrAnd result (λ e. e ≡ fault) → result ≡ Err fault
err-of (Ok answer) is = absurd is
err-of (Err e) is = ap (λ f. Err f) is

-- the folder now, of the lists that the code has
pub folder-now : (disk old : DiskInMemory) → disk ≡ after_call old → folder_of disk.files disk.changes ≡ now (shown old)
folder-now disk old is = ap (λ (d : DiskInMemory). folder_of d.files d.changes) is ∙ sym (now-shown old)

-- what was made of these files shows them
pub made-image : {E : Type 0} (result : Result DiskInMemory E) (files : List (List ℕ × List ℕ)) (failing : List ℕ) (folder : Folder) (image : Files) →
    IfOk result (λ disk. disk ≡ new_disk files failing) → content_of files ≡ image → IsImage folder image → IfOk result (λ disk. IsImage folder (content_of disk.files))
made-image (Ok disk) files failing folder image made shows is =
    subst (IsImage folder) (sym (ap (λ (d : DiskInMemory). content_of d.files) made ∙ shows)) is
made-image (Err fault) files failing folder image made shows is = tt

-- a call that could not begin failed
pub begun-cause : {A B E : Type 0} (begun : Result A E) (result : Result B DiskStop) (before now : ℕ) → HasCause (IsErr begun) before now → IsErr begun → IsErrOf result Failed →
    HasCause (IsErrOf result Failed) before now
begun-cause begun result before now cause err failed = record { later = cause.later; rose = λ is. cause.rose err; quiet = λ not. absurd (not failed) }

pub renamed-other : (from to : List ℕ) (ok : Bool) (old new : Told) → is_name from to ≡ false →
    Changed (After (Rename from to)) ok old new → Changed (after_rename from to) ok old new
renamed-other from to ok old new test changed =
    subst (λ (is : Bool). Changed (λ folder. if is then folder else After (Rename from to) folder) ok old new) (sym test) changed

pub renamed-same : (from to : List ℕ) → is_name from to ≡ true → (folder : Folder) → after_rename from to folder ≡ folder
renamed-same from to test folder = ap (λ (is : Bool). if is then folder else After (Rename from to) folder) test
