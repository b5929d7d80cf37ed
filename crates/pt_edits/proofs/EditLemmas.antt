-- What one edit of the store does, and what its answer comes to.
use Rattle.std.proofs.Common.{◌≡◌, ◌⊎◌, inl, inr, ⊎_elim, ℕ, Bool, true, false, List, [], ◌∷◌, ◌++◌, Option, Some, None, Result, Ok, Err, is_ok, refl, sym, ◌∙◌, ap, subst, arith}
use Rattle.std.specs.Prelude.{IfSome, IfErr}
use Rattle.pt_disk.specs.Files.{Files, SameBut, with_file}
use Rattle.pt_disk.specs.Folder.{reads}
use Rattle.pt_disk.specs.Moments.{Told, now, BothTell}
use Rattle.pt_disk.specs.Leaves.{Leaves, OneOf}
use Rattle.pt_disk.proofs.Folders.{leaves-weaker}
use Rattle.pt_disk.proofs.Names.{name-cases, with_file-at, with_file-other}
use Rattle.pt_disk.proofs.Times.{elapsed-weaker}
use Rattle.pt_stored.specs.Digest.{digest_text}
use Rattle.pt_stored.specs.Stored.{IsStored, StoredWith, StoredWithout, IsClash, pending}
use Rattle.pt_stored.proofs.Digests.{is-digest, same-text}
use Rattle.pt_db.specs.Editing.{Edited, LeavesEither, name_of}
use Rattle.pt_db.specs.Refusals.{ShowsClash}
use Rattle.pt_db.specs.declared.fault.StoreFault.{StoreFault}
use Rattle.pt_db.specs.declared.fault.StoreFault.TheVariants as fault
use Rattle.pt_db.proofs.Telling.{both-weaker}
use Rattle.pt_edits.specs.Clash.{ClashesIn}
use Rattle.pt_edits.specs.Made.{Made}
use Rattle.pt_edits.specs.Pairs.{PairEdit, SavePair, DeletePair, StoresAfter, IsAfter, IsAfterSome, bytes_of, digest_of, file_of, left_by}
use Rattle.pt_edits.specs.Stops.{IsStopOf, IsAnswerOf}
use Rattle.pt_edits.specs.declared.stop.StoreStop.{StoreStop}
use Rattle.pt_edits.proofs.SetLemmas.{is-after-none}

abbrev Done : Type 0
Done = Result (Unit {0}) StoreFault

abbrev Answer : Type 0
Answer = Result (Unit {0}) StoreStop

-- ---- the edit

module _ (Edit : Files → Files → Type 0) (edit : PairEdit) (gives : (old new : Files) → Edit old new → StoresAfter (edit ∷ []) old new) where
  -- only the edit's file is another, and as the edit leaves it
  one-after : (old new : Files) → Edit old new → OneOf pending (file_of edit) (left_by edit) old new → IsAfter (edit ∷ []) old new
  one-after old new changed one = record {
    stored = gives old new changed;
    files = λ name spare. ⊎_elim
        (λ but. inl (but name spare))
        (λ but. ⊎_elim
        (λ here. inr (edit, (0, omega arith, refl), here, but name spare ∙ ap (with_file (file_of edit) (left_by edit) old) here ∙ with_file-at (file_of edit) (left_by edit) old))
        (λ other. inl (but name spare ∙ with_file-other (file_of edit) (left_by edit) old name other.0))
        (name-cases name (file_of edit)))
        one;
  }

  abbrev IsEither : Files → Files → Type 0
  IsEither files image = SameBut pending files image ⊎ (Edit files image × SameBut pending (with_file (file_of edit) (left_by edit) files) image)

  either-some : (files image : Files) → IsEither files image → IsAfterSome (edit ∷ []) files image
  either-some files image either = ⊎_elim
      (λ same. ([], edit ∷ [], refl, is-after-none files image same))
      (λ (changed, but). (edit ∷ [], [], refl, one-after files image changed (inr but)))
      either

  abbrev IsEdited : Bool → Told → Told → Type 0
  IsEdited ok = Edited Edit (file_of edit) (left_by edit) ok

  made-one : (ok : Bool) (old new : Told) → IsEdited ok old new → Made (edit ∷ []) ok old new
  made-one ok old new edited = record {
    edited = λ went. one-after (reads (now old)) (reads (now new)) (edited.edited went) (edited.files went);
    rests = edited.rests;
    any_moment = λ rests. elapsed-weaker (LeavesEither Edit (file_of edit) (left_by edit) (reads (now old)))
        (Leaves pending (IsAfterSome (edit ∷ []) (reads (now old)))) old new
        (λ folder. leaves-weaker pending (IsEither (reads (now old))) (IsAfterSome (edit ∷ []) (reads (now old))) folder (either-some (reads (now old))))
        (edited.any_moment rests);
  }

  both-made-one : (ok : Bool) (old new : Option Told) → BothTell (IsEdited ok) old new → BothTell (Made (edit ∷ []) ok) old new
  both-made-one ok old new = both-weaker (IsEdited ok) (Made (edit ∷ []) ok) old new (made-one ok)

  pub answer-made : (done : Done) (answer : Answer) (old new : Option Told) → IsAnswerOf done answer →
      BothTell (IsEdited (is_ok done)) old new → BothTell (Made (edit ∷ []) (is_ok answer)) old new
  answer-made (Ok done) answer old new is edited =
      subst (λ (a : Answer). BothTell (Made (edit ∷ []) (is_ok a)) old new) (sym is) (both-made-one true old new edited)
  answer-made (Err refusal) answer old new (why, is, because) edited =
      subst (λ (a : Answer). BothTell (Made (edit ∷ []) (is_ok a)) old new) (sym is) (both-made-one false old new edited)

pub saved-after : (digest bytes : List ℕ) (old new : Files) → StoredWith digest bytes old new → StoresAfter (SavePair digest bytes ∷ []) old new
saved-after digest bytes old new changed = changed

pub deleted-after : (digest bytes : List ℕ) (old new : Files) → StoredWithout digest bytes old new → StoresAfter (DeletePair digest bytes ∷ []) old new
deleted-after digest bytes old new changed = changed

-- ---- the clash

kept-stored : (key value kept : List ℕ) (told : Option Told) → IfSome told (λ told. IsClash (reads (now told)) (name_of key value) value kept) →
    IfSome told (λ told. IsStored (reads (now told)) (digest_text key) kept)
kept-stored key value kept None clash = tt
kept-stored key value kept (Some told) clash = record {
  key = is-digest key;
  short = clash.short;
  file = ap (λ (text : List ℕ). reads (now told) (digest_text key ++ 45 ∷ text)) (same-text kept value clash.alike.alike) ∙ clash.there;
}

module _ (key value : List ℕ) (edit : PairEdit) (holds : bytes_of edit ≡ value) (its : digest_of edit ≡ digest_text key) where
  clash-in : (refusal : StoreFault) (why : StoreStop) (told : Option Told) → ShowsClash told (name_of key value) value refusal → IsStopOf refusal why → ClashesIn (edit ∷ []) told why
  clash-in fault.Disk why told shows is = subst (ClashesIn (edit ∷ []) told) (sym is) tt
  clash-in fault.Dead why told shows is = absurd is
  clash-in fault.NoMemory why told shows is = subst (ClashesIn (edit ∷ []) told) (sym is) tt
  clash-in (fault.Clash kept offered) why told (same, alike, clash) is = subst (ClashesIn (edit ∷ []) told) (sym is) (record {
    alike = alike;
    made = [];
    due = edit;
    left = [];
    among = refl;
    offered = holds ∙ sym same;
    kept = subst (λ (digest : List ℕ). IfSome told (λ told. IsStored (reads (now told)) digest kept)) (sym its) (kept-stored key value kept told clash);
  })

  pub answer-clash : (done : Done) (answer : Answer) (told : Option Told) → IsAnswerOf done answer → IfErr done (ShowsClash told (name_of key value) value) → IfErr answer (ClashesIn (edit ∷ []) told)
  answer-clash (Ok done) answer told is shows = subst (λ (a : Answer). IfErr a (ClashesIn (edit ∷ []) told)) (sym is) tt
  answer-clash (Err refusal) answer told (why, is, because) shows = subst (λ (a : Answer). IfErr a (ClashesIn (edit ∷ []) told)) (sym is) (clash-in refusal why told shows because)
