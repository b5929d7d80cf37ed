-- Each edit of a run has its reason, and what follows of that for what is stored.
use Rattle.std.proofs.Common.{◌≡◌, ◌⊎◌, inl, inr, ⊎_elim, ℕ, ◌≤◌, suc, Bool, true, false, zero, List, [], ◌∷◌, ◌++◌, length, Option, Some, None, refl, sym, ◌∙◌, subst, arith}
use Rattle.std.specs.Prelude.{◌≢◌, Contains, All, ⊤}
use Rattle.pt_choice.specs.declared.choice.Choice.{Choice}
use Rattle.pt_disk.specs.Files.{Files}
use Rattle.pt_wire.specs.Stored.{Stored}
use Rattle.pt_wire.specs.Unpacked.{IsUnpacked}
use Rattle.pt_wire.specs.declared.unpacking.Unpacked.{Unpacked}
use Rattle.pt_wire.proofs.StoredLists.{one_unpacked, one_version}
use Rattle.pt_case.specs.Ending.{is_failure}
use Rattle.pt_case.specs.Run.{IsRecord}
use Rattle.pt_case.specs.Step.{Answer}
use Rattle.pt_case.specs.declared.record.Record.{Record}
use Rattle.pt_found.specs.declared.finding.Verdict.{Verdict}
use Rattle.pt_found.specs.declared.finding.Verdict.TheVariants.{Passed, GaveUp, Failed}
use Rattle.pt_engine.specs.Finding.{ReplaysItself}
use Rattle.pt_engine.specs.Outcome.{AreRecords, flags_of}
use Rattle.pt_stored.specs.Stored.{IsStored, pending}
use Rattle.pt_edits.specs.Pairs.{Pairs, PairEdit, SavePair, DeletePair, digest_of, file_of, left_by, after, after_all, IsAfter}
use Rattle.pt_edits.specs.Readings.{IsSpelled, IsRenewed, IsKeptOrNot, IsAskedBy, AreAskedFor, IsShownSaved, AreEdits, list_in, lists_of}
use Rattle.pt_edits.specs.declared.reading.Reading.{Reading}
use Rattle.pt_edits.proofs.FateLemmas.{IsIn, there-or-deleted, was-or-saved}

here : {X : Type 0} (x : X) (xs : List X) → Contains (x ∷ xs) x
here x xs = (0, omega arith, refl)

later : {X : Type 0} (x : X) (xs : List X) (y : X) → Contains xs y → Contains (x ∷ xs) y
later x xs y (k, within, is) = (suc k, omega (arith, within), is)

is-in : (edits : List PairEdit) (edit : PairEdit) → Contains edits edit → IsIn edit edits
is-in [] edit (k, within, is) = absurd (omega (arith, within))
is-in (first ∷ edits) edit (zero, within, is) = inl is
is-in (first ∷ edits) edit (suc k, within, is) = inr (is-in edits edit (k, omega (arith, within), is))

-- a pair that was saved is there, or one of the edits deletes it
saved-or-deleted : (edits : List PairEdit) (S : Pairs) (d b : List ℕ) → IsIn (SavePair d b) edits → after_all edits S d b ⊎ IsIn (DeletePair d b) edits
saved-or-deleted [] S d b saved = absurd saved
saved-or-deleted (edit ∷ edits) S d b saved = ⊎_elim
    (λ here. ⊎_elim (λ has. inl has) (λ deleted. inr (inr deleted))
    (there-or-deleted edits (after edit S) d b (subst (λ (e : PairEdit). after e S d b) (sym here) (inr (refl, refl)))))
    (λ later. ⊎_elim (λ has. inl has) (λ deleted. inr (inr deleted)) (saved-or-deleted edits (after edit S) d b later))
    saved

-- which digests are those of items, and whether a list fails on an item of such a digest
module _ (Is : List ℕ → Type 0) (Fails : List ℕ → List Choice → Bool → Type 0) where
  -- The value spells no list, or one that does not fail; or its list fails, and it is of version 1, and version 2 was saved before.
  abbrev Reason : List PairEdit → List ℕ → Option Unpacked → Type 0
  Reason before digest None = Is digest
  Reason before digest (Some unpacked) = Fails digest unpacked.list false
      ⊎ (Fails digest unpacked.list true × (unpacked.old ≡ true) × (fresh : List ℕ) × Stored unpacked.list fresh × IsIn (SavePair digest fresh) before)

  -- what is saved is a failure in version 2, and what is deleted may go
  abbrev HasReason : List PairEdit → PairEdit → Type 0
  HasReason before (SavePair digest bytes) = (list : List Choice) × Stored list bytes × (length list ≤ 256) × Fails digest list true
  HasReason before (DeletePair digest bytes) = (found : Option Unpacked) × IsUnpacked bytes found × Reason before digest found

  -- so the edit's digest is one of these
  reason-is : ((digest : List ℕ) (list : List Choice) (flag : Bool) → Fails digest list flag → Is digest) → (before : List PairEdit) (edit : PairEdit) →
      HasReason before edit → Is (digest_of edit)
  reason-is owns before (SavePair digest bytes) (list, stored, few, failing) = owns digest list true failing
  reason-is owns before (DeletePair digest bytes) (None, unpacks, own) = own
  reason-is owns before (DeletePair digest bytes) (Some unpacked, unpacks, inl passing) = owns digest unpacked.list false passing
  reason-is owns before (DeletePair digest bytes) (Some unpacked, unpacks, inr (failing, first, fresh, stored, saved)) = owns digest unpacked.list true failing

  -- each of the edits has its reason, after these ones
  abbrev pub HaveReasons : List PairEdit → List PairEdit → Type 0
  HaveReasons before [] = ⊤
  HaveReasons before (edit ∷ edits) = HasReason before edit × HaveReasons (edit ∷ before) edits

  abbrev pub AtAnyTime : List PairEdit → Type 0
  AtAnyTime edits = (before : List PairEdit) → HaveReasons before edits

  pub have-both : (one more before : List PairEdit) → HaveReasons before one → AtAnyTime more → HaveReasons before (one ++ more)
  have-both [] more before first follow = follow before
  have-both (edit ∷ one) more before first follow = (first.0, have-both one more (edit ∷ before) first.1 follow)

  pub have-first : (made left before : List PairEdit) → HaveReasons before (made ++ left) → HaveReasons before made
  have-first [] left before have = tt
  have-first (edit ∷ made) left before have = (have.0, have-first made left (edit ∷ before) have.1)

  any-both : (one more : List PairEdit) → AtAnyTime one → AtAnyTime more → AtAnyTime (one ++ more)
  any-both one more first follow before = have-both one more before (first before) follow

  -- ---- the edits of a turn have reasons

  module _ (says : List Choice → Answer → Type 0) (digest : List ℕ) (is : Is digest)
      (own : (list : List Choice) (flag : Bool) (rec : Record) → IsRecord says list rec → is_failure rec.ending ≡ flag → Fails digest list flag) where
    deleted-has : (bytes : List ℕ) (found : Option Unpacked) (its : List PairEdit) → IsUnpacked bytes found → ((before : List PairEdit) → Reason before digest found) →
        its ≡ DeletePair digest bytes ∷ [] → AtAnyTime its
    deleted-has bytes found its unpacks reason same = subst AtAnyTime (sym same) (λ before. ((found, unpacks, reason before), tt))

    renewed-has : (bytes : List ℕ) (unpacked : Unpacked) (old : Bool) (its : List PairEdit) → IsUnpacked bytes (Some unpacked) → Fails digest unpacked.list true →
        unpacked.old ≡ old → IsRenewed digest bytes unpacked.list old its → AtAnyTime its
    renewed-has bytes unpacked true its unpacks failing first (fresh, stored, same) = subst AtAnyTime (sym same) (λ before. (
      (unpacked.list, stored, unpacks.0.1, failing),
      ((Some unpacked, unpacks, inr (failing, first, fresh, stored, inl refl)), tt),
    ))
    renewed-has bytes unpacked false its unpacks failing second same = subst AtAnyTime (sym same) (λ before. tt)

    kept-has : (bytes : List ℕ) (unpacked : Unpacked) (rec : Record) (flag : Bool) (its : List PairEdit) → IsUnpacked bytes (Some unpacked) →
        IsRecord says unpacked.list rec → is_failure rec.ending ≡ flag → IsKeptOrNot digest bytes unpacked flag its → AtAnyTime its
    kept-has bytes unpacked rec true its unpacks recorded flag kept =
        renewed-has bytes unpacked unpacked.old its unpacks (own unpacked.list true rec recorded flag) refl kept
    kept-has bytes unpacked rec false its unpacks recorded flag deleted =
        deleted-has bytes (Some unpacked) its unpacks (λ before. inl (own unpacked.list false rec recorded flag)) deleted

    -- the edits of one reading, and the records of the lists of the others
    asked-one : (bytes : List ℕ) (found : Option Unpacked) (lists : List (List Choice)) (records : List Record) (flags left : List Bool) (its : List PairEdit) →
        IsUnpacked bytes found → AreRecords says (list_in found ++ lists) records → flags ≡ flags_of records → IsAskedBy digest bytes found flags left its →
        AtAnyTime its × ((others : List Record) × AreRecords says lists others × (left ≡ flags_of others))
    asked-one bytes None lists records flags left its unpacks are same (left_is, deleted) =
        (deleted-has bytes None its unpacks (λ before. is) deleted, (records, are, left_is ∙ same))
    asked-one bytes (Some unpacked) lists [] flags left its unpacks are same asked = absurd are
    asked-one bytes (Some unpacked) lists (rec ∷ records) flags left its unpacks (recorded, are) same (flag, flags_are, kept) =
        let both : flag ∷ left ≡ is_failure rec.ending ∷ flags_of records = sym flags_are ∙ same in
        let first : is_failure rec.ending ≡ flag = cc both in
        (kept-has bytes unpacked rec flag its unpacks recorded first kept, (records, are, cc both))

    asked-have : (readings : List Reading) (records : List Record) (flags : List Bool) (edits : List PairEdit) →
        ((reading : Reading) → Contains readings reading → IsSpelled reading) → AreRecords says (lists_of readings) records → flags ≡ flags_of records →
        AreAskedFor digest readings flags edits → AtAnyTime edits
    asked-have [] records flags edits spelled are same none = subst AtAnyTime (sym none) (λ before. tt)
    asked-have (reading ∷ readings) records flags edits spelled are same (left, its, rest, asked, follow, parts) =
        let (first, (others, those, left_are)) =
        asked-one reading.bytes reading.unpacked (lists_of readings) records flags left its (spelled reading (here reading readings)) are same asked
        in
        let more = asked-have readings others left rest (λ other within. spelled other (later reading readings other within)) those left_are follow in
        subst AtAnyTime (sym parts) (any-both its rest first more)

    shown-has : (verdict : Verdict) (edits : List PairEdit) → ReplaysItself says verdict → IsShownSaved digest verdict edits → AtAnyTime edits
    shown-has Passed edits replays none = subst AtAnyTime (sym none) (λ before. tt)
    shown-has GaveUp edits replays none = subst AtAnyTime (sym none) (λ before. tt)
    shown-has (Failed shown found spent) edits replays (fresh, stored, same) =
        subst AtAnyTime (sym same) (λ before. ((shown.choices, stored, shown.few_choices, own shown.choices true shown replays.0 replays.1), tt))

    pub edits-have : (verdict : Verdict) (readings : List Reading) (records : List Record) (flags : List Bool) (edits : List PairEdit) → ReplaysItself says verdict →
        All IsSpelled readings → AreRecords says (lists_of readings) records → flags ≡ flags_of records → AreEdits digest readings verdict flags edits → AtAnyTime edits
    edits-have verdict readings records flags edits replays spelled are same (first, rest, saved, asked, parts) =
        let each : (reading : Reading) → Contains readings reading → IsSpelled reading = λ reading (k, within, at). subst IsSpelled at (spelled k reading within) in
        subst AtAnyTime (sym parts)
        (any-both first rest (shown-has verdict first replays saved) (asked-have readings records flags rest each are same asked))

  -- ---- edits that were made have their reasons among themselves

  reason-later : (digest : List ℕ) (found : Option Unpacked) (before among : List PairEdit) → ((edit : PairEdit) → IsIn edit before → IsIn edit among) →
      Reason before digest found → Reason among digest found
  reason-later digest None before among known reason = reason
  reason-later digest (Some unpacked) before among known reason = ⊎_elim
      (λ passing. inl passing)
      (λ (failing, first, fresh, stored, saved). inr (failing, first, fresh, stored, known (SavePair digest fresh) saved))
      reason

  has-later : (edit : PairEdit) (before among : List PairEdit) → ((edit : PairEdit) → IsIn edit before → IsIn edit among) → HasReason before edit → HasReason among edit
  has-later (SavePair digest bytes) before among known has = has
  has-later (DeletePair digest bytes) before among known (found, unpacks, reason) = (found, unpacks, reason-later digest found before among known reason)

  -- an edit among these has its reason among all that were made
  its-reason : (made before among : List PairEdit) → HaveReasons before made → ((edit : PairEdit) → IsIn edit before → IsIn edit among) →
      ((edit : PairEdit) → IsIn edit made → IsIn edit among) → (edit : PairEdit) → IsIn edit made → HasReason among edit
  its-reason [] before among have known are edit within = absurd within
  its-reason (first ∷ made) before among have known are edit within = ⊎_elim
      (λ same. subst (HasReason among) same (has-later first before among known have.0))
      (λ later. its-reason made (first ∷ before) among have.1 (λ other. λ either. ⊎_elim (λ same. are other (inl same)) (known other) either) (λ other has. are other (inr has)) edit later)
      within

  module _ (made : List PairEdit) (have : HaveReasons [] made) where
    reason-of : (edit : PairEdit) → IsIn edit made → HasReason made edit
    reason-of = its-reason made [] made have (λ edit none. absurd none) (λ edit within. within)

    -- ---- what that means for what is stored

    module _ (old new : Files) (edited : IsAfter made old new) where
      pub was-or-fails : (d b : List ℕ) → IsStored new d b →
          IsStored old d b ⊎ ((list : List Choice) × Stored list b × (length list ≤ 256) × Fails d list true)
      was-or-fails d b has = ⊎_elim
          (λ was. inl was)
          (λ saved. inr (reason-of (SavePair d b) saved))
          (was-or-saved made (IsStored old) d b ((edited.stored d b).0 has))

      -- a file that is another is as an edit leaves it, whose digest is one of these
      pub same-or-changed : ((digest : List ℕ) (list : List Choice) (flag : Bool) → Fails digest list flag → Is digest) → (file : List ℕ) → file ≢ pending →
          (new file ≡ old file) ⊎ ((edit : PairEdit) × Is (digest_of edit) × (file ≡ file_of edit) × (new file ≡ left_by edit))
      same-or-changed owns file spare = ⊎_elim
          (λ same. inl same)
          (λ (edit, within, is, left). inr (edit, reason-is owns made edit (reason-of edit (is-in made edit within)), is, left))
          (edited.files file spare)

      -- no reason speaks against the version 2 of a list but that it does not fail
      passing-only : (digest : List ℕ) (list : List Choice) (fresh : List ℕ) (found : Option Unpacked) → Stored list fresh → length list ≤ 256 →
          IsUnpacked fresh found → Reason made digest found → Fails digest list false
      passing-only digest list fresh None stored few unpacks reason = absurd (unpacks list (inl stored, few))
      passing-only digest list fresh (Some unpacked) stored few unpacks reason = ⊎_elim
          (λ passing. subst (λ (l : List Choice). Fails digest l false) (one_unpacked unpacked.list list fresh unpacks.0 (inl stored, few)) passing)
          (λ (failing, first, other, spelled, saved). let (one, old_one) = unpacks.1.0 first in absurd (one_version list one fresh stored old_one))
          reason

      -- what was saved in version 2 is stored, or its list does not fail
      renewed-kept : (digest : List ℕ) (list : List Choice) (fresh : List ℕ) → Stored list fresh → length list ≤ 256 → IsIn (SavePair digest fresh) made →
          IsStored new digest fresh ⊎ Fails digest list false
      renewed-kept digest list fresh stored few saved = ⊎_elim
          (λ has. inl ((edited.stored digest fresh).1 has))
          (λ deleted. let (found, unpacks, reason) = reason-of (DeletePair digest fresh) deleted in inr (passing-only digest list fresh found stored few unpacks reason))
          (saved-or-deleted made (IsStored old) digest fresh saved)

      -- the value may go
      abbrev pub Goes : List ℕ → Option Unpacked → Type 0
      Goes digest None = Is digest
      Goes digest (Some unpacked) = Fails digest unpacked.list false
          ⊎ (Fails digest unpacked.list true × (unpacked.old ≡ true) × (fresh : List ℕ) × Stored unpacked.list fresh × IsStored new digest fresh)

      goes : (digest bytes : List ℕ) (found : Option Unpacked) → IsUnpacked bytes found → Reason made digest found → Goes digest found
      goes digest bytes None unpacks reason = reason
      goes digest bytes (Some unpacked) unpacks reason = ⊎_elim
          (λ passing. inl passing)
          (λ (failing, first, fresh, stored, saved). ⊎_elim
          (λ kept. inr (failing, first, fresh, stored, kept))
          (λ passing. inl passing)
          (renewed-kept digest unpacked.list fresh stored unpacks.0.1 saved))
          reason

      pub there-or-goes : (d b : List ℕ) → IsStored old d b → IsStored new d b ⊎ ((found : Option Unpacked) × IsUnpacked b found × Goes d found)
      there-or-goes d b was = ⊎_elim
          (λ has. inl ((edited.stored d b).1 has))
          (λ deleted. let (found, unpacks, reason) = reason-of (DeletePair d b) deleted in inr (found, unpacks, goes d b found unpacks reason))
          (there-or-deleted made (IsStored old) d b was)
