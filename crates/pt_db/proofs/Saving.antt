-- From one file to the stored set.
use Rattle.std.proofs.Common.{◌≡◌, ◌≢◌, ◌⊎◌, inl, inr, ⊎_elim, ℕ, ◌≤◌, Bool, true, false, List, length, Option, Some, None, refl, sym, ◌∙◌, ap, subst}
use Rattle.pt_disk.specs.Files.{Files, SameBut, with_file}
use Rattle.pt_disk.specs.Folder.{Folder, reads, IsImage}
use Rattle.pt_disk.specs.Moments.{Told, now, Elapsed, IsImageSince, BothTell}
use Rattle.pt_disk.specs.Calls.{Rests}
use Rattle.pt_disk.specs.Leaves.{OneOf, IsAtRest}
use Rattle.pt_disk.proofs.Folders.{leaves-weaker}
use Rattle.pt_disk.proofs.Times.{elapsed-then, elapsed-weaker, elapsed-images}
use Rattle.pt_stored.specs.Digest.{IsDigest, file_name}
use Rattle.pt_stored.specs.Stored.{IsStored, SameStored, StoredWith, StoredWithout, pending}
use Rattle.pt_stored.proofs.SetLemmas.{same-stored, stored-with, stored-without, stored-already, stored-not}
use Rattle.pt_db.specs.Editing.{LeavesEither, Edited, Edits, RestsWhere, saved_as, removed}
use Rattle.pt_db.specs.Reading.{Holds, IsFree}
use Rattle.pt_db.specs.Writing.{LeavesOne, Reached}
use Rattle.pt_db.proofs.Telling.{both-weaker, IsAsAt, rested}
use Rattle.pt_db.proofs.Attaching.{rest-kept}
use Rattle.pt_db.proofs.Writing.{written-reads, written-rests, removed-reads, removed-rests}

module _ (Edit : Files → Files → Type 0) (name : List ℕ) (file : Option (List ℕ)) where
  abbrev IsEither : Files → Files → Type 0
  IsEither files image = SameBut pending files image ⊎ (Edit files image × SameBut pending (with_file name file files) image)

  abbrev Both : Folder → Folder → Type 0
  Both start = LeavesEither Edit name file (reads start)

  still : (old new : Told) → Elapsed (IsAsAt old) old new → IsAtRest pending (now old) → Elapsed (Both (now old)) old new
  still old new elapsed rests = elapsed-weaker (IsAsAt old) (Both (now old)) old new
      (λ folder same. subst (Both (now old)) (sym same)
      (leaves-weaker pending (SameBut pending (reads (now old))) (IsEither (reads (now old))) (now old) (λ image but. inl but) rests))
      elapsed

  -- nothing was written, and the call gave up
  idle : (old new : Told) → Elapsed (IsAsAt old) old new → Edited Edit name file false old new
  idle old new elapsed = record {
    edited = λ ok. absurd (cc ok);
    files = λ ok. absurd (cc ok);
    rests = λ rests ok. absurd (cc ok);
    kept = λ rests ok. absurd (cc ok);
    any_moment = still old new elapsed;
  }

  pub gave-none : (old new : Option Told) → Rests old new → Edits Edit name file false old new
  gave-none old new = both-weaker (λ old new. Elapsed (IsAsAt old) old new) (Edited Edit name file false) old new idle

  -- nothing had to be written
  pub unwritten : (old new : Told) → Elapsed (IsAsAt old) old new → ((image : Files) → SameBut pending (reads (now old)) image → Edit (reads (now old)) image) → Edited Edit name file true old new
  unwritten old new elapsed edit =
      let same = rested old new elapsed in
      record {
        edited = λ ok. edit (reads (now new)) (λ n other. ap (λ (f : Folder). reads f n) same);
        files = λ ok. inl (λ n spare. ap (λ (f : Folder). reads f n) same);
        rests = λ rests ok. subst (IsAtRest pending) (sym same) rests;
        kept = λ rests ok image left. edit image (rests.images image (subst (λ (f : Folder). IsImage f image) same left));
        any_moment = still old new elapsed;
      }

  -- the file was written, after nothing else was
  pub edits : (calls : Folder → Folder) → ((start : Folder) → SameBut pending (with_file name file (reads start)) (reads (calls start))) →
      ((start : Folder) → IsAtRest pending start → IsAtRest pending (calls start)) →
      (ok : Bool) (old mid new : Told) → ((image : Files) → SameBut pending (with_file name file (reads (now old))) image → Edit (reads (now old)) image) →
      Elapsed (IsAsAt old) old mid → Reached name file calls ok mid new → Edited Edit name file ok old new
  edits calls gives still_rests ok old mid new edit elapsed reached =
      let same = rested old mid elapsed in
      let here : ok ≡ true → now new ≡ calls (now old) = λ went. reached.here went ∙ ap calls same in
      let reading : ok ≡ true → SameBut pending (with_file name file (reads (now old))) (reads (now new)) =
      λ went n spare. ap (λ (f : Folder). reads f n) (here went) ∙ gives (now old) n spare in
      let at_rest : IsAtRest pending (now old) → ok ≡ true → IsAtRest pending (now new) =
      λ rests went. subst (IsAtRest pending) (sym (here went)) (still_rests (now old) rests) in
      record {
        edited = λ went. edit (reads (now new)) (reading went);
        files = λ went. inr (reading went);
        rests = at_rest;
        kept = λ rests went image left. edit image (λ n spare. (at_rest rests went).images image left n spare ∙ reading went n spare);
        any_moment = λ rests.
            let later = subst (λ (f : Folder). Elapsed (LeavesOne name file f) mid new) same (reached.moments (subst (IsAtRest pending) (sym same) rests)) in
            elapsed-then (Both (now old)) old mid new (still old mid elapsed rests)
            (elapsed-weaker (LeavesOne name file (now old)) (Both (now old)) mid new
            (λ folder. leaves-weaker pending (OneOf pending name file (reads (now old))) (IsEither (reads (now old))) folder
            (λ image one. ⊎_elim (λ but. inl but) (λ but. inr (edit image but, but)) one))
            later);
      }

  -- a crash since the start
  pub either-since : (old new : Told) (image : Files) → IsAtRest pending (now old) → Elapsed (Both (now old)) old new → IsImageSince new old.clock image →
      (SameStored (reads (now old)) image ⊎ Edit (reads (now old)) image) × OneOf pending name file (reads (now old)) image
  either-since old new image rests elapsed since = ⊎_elim
      (λ before. (inl (rest-kept (now old) image rests before), inl (rests.images image before)))
      (λ later. ⊎_elim
      (λ but. (inl (same-stored (reads (now old)) image but), inl but))
      (λ (changed, but). (inr changed, inr but))
      (later.1.images image later.2))
      (elapsed-images (Both (now old)) old new elapsed image since)

-- the files at the start are not so, whatever was done
pub rests-never : (Is : Files → Type 0) (P Q : Told → Told → Type 0) (old mid new : Option Told) → BothTell P old mid → BothTell Q mid new →
    ((told : Told) → old ≡ Some told → ¬ Is (reads (now told))) → RestsWhere Is old new
rests-never Is P Q None None None first second never = tt
rests-never Is P Q (Some old) (Some mid) (Some new) first second never = λ holds. absurd (never old refl holds)
rests-never Is P Q None (Some mid) new first second never = absurd first
rests-never Is P Q (Some old) None new first second never = absurd first
rests-never Is P Q None None (Some new) first second never = absurd second
rests-never Is P Q (Some old) (Some mid) None first second never = absurd second

with-same : (digest bytes : List ℕ) (files mid : Files) → SameStored files mid → StoredWith digest bytes files files → StoredWith digest bytes files mid
with-same digest bytes files mid same with_it d b = (λ stored. (with_it d b).0 ((same d b).0 stored), λ either. (same d b).1 ((with_it d b).1 either))

without-same : (digest bytes : List ℕ) (files mid : Files) → SameStored files mid → StoredWithout digest bytes files files → StoredWithout digest bytes files mid
without-same digest bytes files mid same without d b = (λ stored. (without d b).0 ((same d b).0 stored), λ left. (same d b).1 ((without d b).1 left))

-- ---- at what two disks tell

module _ (digest bytes : List ℕ) (is : IsDigest digest) (other : file_name digest bytes ≢ pending) where
  abbrev name : List ℕ
  name = file_name digest bytes

  abbrev Written : Bool → Option Told → Option Told → Type 0
  Written ok = BothTell (Reached name (Some bytes) (saved_as name bytes) ok)

  abbrev Erased : Bool → Option Told → Option Told → Type 0
  Erased ok = BothTell (Reached name None (removed name) ok)

  pub saved-new : (ok : Bool) (old mid new : Option Told) → length bytes ≤ 65536 → Rests old mid → IsFree old name bytes → Written ok mid new → Edits (StoredWith digest bytes) name (Some bytes) ok old new
  saved-new ok None None None short rests free reached = tt
  saved-new ok (Some old) (Some mid) (Some new) short rests free reached =
      edits (StoredWith digest bytes) name (Some bytes) (saved_as name bytes) (written-reads name bytes other) (written-rests name bytes other) ok old mid new
      (λ image same. stored-with digest bytes is (reads (now old)) image short free same) rests reached
  saved-new ok None (Some mid) new short rests free reached = absurd rests
  saved-new ok (Some old) None new short rests free reached = absurd rests
  saved-new ok None None (Some new) short rests free reached = absurd reached
  saved-new ok (Some old) (Some mid) None short rests free reached = absurd reached

  pub saved-already : (old new : Option Told) → length bytes ≤ 65536 → Rests old new → Holds old name bytes → Edits (StoredWith digest bytes) name (Some bytes) true old new
  saved-already None None short rests held = tt
  saved-already (Some old) (Some new) short rests held =
      let has : IsStored (reads (now old)) digest bytes = record { key = is; short = short; file = held } in
      unwritten (StoredWith digest bytes) name (Some bytes) old new rests
      (λ image same. with-same digest bytes (reads (now old)) image (same-stored (reads (now old)) image same) (stored-already digest bytes (reads (now old)) has))
  saved-already None (Some new) short rests held = absurd rests
  saved-already (Some old) None short rests held = absurd rests

  pub deleted-old : (ok : Bool) (old mid new : Option Told) → Rests old mid → Holds old name bytes → Erased ok mid new → Edits (StoredWithout digest bytes) name None ok old new
  deleted-old ok None None None rests held reached = tt
  deleted-old ok (Some old) (Some mid) (Some new) rests held reached =
      edits (StoredWithout digest bytes) name None (removed name) (removed-reads name) (removed-rests name) ok old mid new
      (λ image same. stored-without digest bytes is (reads (now old)) image held same) rests reached
  deleted-old ok None (Some mid) new rests held reached = absurd rests
  deleted-old ok (Some old) None new rests held reached = absurd rests
  deleted-old ok None None (Some new) rests held reached = absurd reached
  deleted-old ok (Some old) (Some mid) None rests held reached = absurd reached

  pub deleted-absent : (old new : Option Told) → Rests old new → IsFree old name bytes → Edits (StoredWithout digest bytes) name None true old new
  deleted-absent None None rests free = tt
  deleted-absent (Some old) (Some new) rests free =
      unwritten (StoredWithout digest bytes) name None old new rests
      (λ image same. without-same digest bytes (reads (now old)) image (same-stored (reads (now old)) image same)
      (stored-not digest bytes (reads (now old)) (λ stored. free bytes stored.short stored.file refl)))
  deleted-absent None (Some new) rests free = absurd rests
  deleted-absent (Some old) None rests free = absurd rests

  -- a value that is held is stored
  pub held-always : (old : Option Told) → Holds old name bytes → length bytes ≤ 65536 → (told : Told) → old ≡ Some told → ¬ ¬ IsStored (reads (now told)) digest bytes
  held-always None held short told same = absurd (cc same)
  held-always (Some old) held short told same = λ none.
      let this : old ≡ told = cc same in
      none (record { key = is; short = short; file = ap (λ (t : Told). reads (now t) name) (sym this) ∙ held })
