-- Each edit of a turn has its reason.
use Rattle.std.proofs.Common.{◌≡◌, ◌⊎◌, inl, inr, ⊎_elim, ℕ, ◌≤◌, suc, Bool, true, false, List, [], ◌∷◌, ◌++◌, map, length, Option, Some, None, refl, sym, ◌∙◌, ap, subst, append-nil, arith}
use Rattle.std.specs.Prelude.{Contains, All, ⊤}
use Rattle.pt_choice.specs.declared.choice.Choice.{Choice}
use Rattle.pt_disk.specs.Files.{Files}
use Rattle.pt_wire.specs.Stored.{Stored}
use Rattle.pt_wire.specs.Unpacked.{IsUnpacked}
use Rattle.pt_wire.specs.declared.unpacking.Unpacked.{Unpacked}
use Rattle.pt_wire.proofs.StoredLists.{one_unpacked, one_version}
use Rattle.pt_case.specs.declared.record.Record.{Record}
use Rattle.pt_found.specs.declared.finding.Found.{Found}
use Rattle.pt_found.specs.declared.finding.Verdict.{Verdict}
use Rattle.pt_found.specs.declared.finding.Verdict.TheVariants.{Passed, GaveUp, Failed}
use Rattle.pt_stored.specs.Stored.{IsStored}
use Rattle.pt_edits.specs.Differences.{MayGo, IsOfShown, IsOfReading, NothingIsLost, NothingIsInvented}
use Rattle.pt_edits.specs.Pairs.{PairEdit, SavePair, DeletePair, IsAfter}
use Rattle.pt_edits.specs.Readings.{IsSpelled, IsRenewed, IsKeptOrNot, IsAskedBy, AreAskedFor, IsShownSaved, AreEdits, list_in, lists_of}
use Rattle.pt_edits.specs.declared.reading.Reading.{Reading}
use Rattle.pt_edits.proofs.FateLemmas.{IsIn, there-or-deleted, was-or-saved, saved-stays}

here : {X : Type 0} (x : X) (xs : List X) → Contains (x ∷ xs) x
here x xs = (0, omega arith, refl)

later : {X : Type 0} (x : X) (xs : List X) (y : X) → Contains xs y → Contains (x ∷ xs) y
later x xs y (k, within, is) = (suc k, omega (arith, within), is)

module _ (digest : List ℕ) (fails : List Choice → Bool) (verdict : Verdict) (all : List Reading) where
  -- the value may go, and where it is of version 1 and its list fails, version 2 was saved before
  abbrev Reason : List PairEdit → Option Unpacked → Type 0
  Reason before None = ⊤
  Reason before (Some unpacked) = (fails unpacked.list ≡ false)
      ⊎ ((fails unpacked.list ≡ true) × (unpacked.old ≡ true) × (fresh : List ℕ) × Stored unpacked.list fresh × IsIn (SavePair digest fresh) before)

  abbrev HasReason : List PairEdit → PairEdit → Type 0
  HasReason before (SavePair d b) = (d ≡ digest) × (IsOfShown verdict b ⊎ IsOfReading fails all b)
  HasReason before (DeletePair d b) = (d ≡ digest) × (reading : Reading) × Contains all reading × (reading.bytes ≡ b) × Reason before reading.unpacked

  -- each of the edits has its reason, after these ones
  abbrev HaveReasons : List PairEdit → List PairEdit → Type 0
  HaveReasons before [] = ⊤
  HaveReasons before (edit ∷ edits) = HasReason before edit × HaveReasons (edit ∷ before) edits

  abbrev AtAnyTime : List PairEdit → Type 0
  AtAnyTime edits = (before : List PairEdit) → HaveReasons before edits

  -- ---- the edits of a turn have reasons

  module _ (reading : Reading) (among : Contains all reading) (rest : List PairEdit) (follow : AtAnyTime rest) where
    renewed-has : (unpacked : Unpacked) (old : Bool) (its : List PairEdit) → reading.unpacked ≡ Some unpacked → fails unpacked.list ≡ true → unpacked.old ≡ old →
        IsRenewed digest reading.bytes unpacked.list old its → AtAnyTime (its ++ rest)
    renewed-has unpacked true its found failing first (fresh, stored, is) before =
        subst (λ (l : List PairEdit). HaveReasons before (l ++ rest)) (sym is) (
          (refl, inr (reading, unpacked, among, found, failing, stored)),
          (
            (refl, reading, among, refl, subst (Reason (SavePair digest fresh ∷ before)) (sym found) (inr (failing, first, fresh, stored, inl refl))),
            follow (DeletePair digest reading.bytes ∷ SavePair digest fresh ∷ before),
          ),
        )
    renewed-has unpacked false its found failing second is before = subst (λ (l : List PairEdit). HaveReasons before (l ++ rest)) (sym is) (follow before)

    deleted-has : (found : Option Unpacked) (its : List PairEdit) → reading.unpacked ≡ found → ((before : List PairEdit) → Reason before found) →
        its ≡ DeletePair digest reading.bytes ∷ [] → AtAnyTime (its ++ rest)
    deleted-has found its same reason is before =
        subst (λ (l : List PairEdit). HaveReasons before (l ++ rest)) (sym is)
        ((refl, reading, among, refl, subst (Reason before) (sym same) (reason before)), follow (DeletePair digest reading.bytes ∷ before))

    kept-has : (unpacked : Unpacked) (flag : Bool) (its : List PairEdit) → reading.unpacked ≡ Some unpacked → fails unpacked.list ≡ flag →
        IsKeptOrNot digest reading.bytes unpacked flag its → AtAnyTime (its ++ rest)
    kept-has unpacked true its found failing kept = renewed-has unpacked unpacked.old its found failing refl kept
    kept-has unpacked false its found passing is = deleted-has (Some unpacked) its found (λ before. inl passing) is

  asked-flags : (found : Option Unpacked) (bytes : List ℕ) (readings : List Reading) (flags left : List Bool) (its : List PairEdit) →
      flags ≡ map fails (list_in found ++ lists_of readings) → IsAskedBy digest bytes found flags left its → left ≡ map fails (lists_of readings)
  asked-flags None bytes readings flags left its counted asked = asked.0 ∙ counted
  asked-flags (Some unpacked) bytes readings flags left its counted (flag, is, kept) =
      let same : flag ∷ left ≡ fails unpacked.list ∷ map fails (lists_of readings) = sym is ∙ counted in
      cc same

  asked-has : (reading : Reading) (found : Option Unpacked) (readings : List Reading) (flags left : List Bool) (its rest : List PairEdit) → Contains all reading → reading.unpacked ≡ found →
      flags ≡ map fails (list_in found ++ lists_of readings) → IsAskedBy digest reading.bytes found flags left its → AtAnyTime rest → AtAnyTime (its ++ rest)
  asked-has reading None readings flags left its rest among same counted asked follow = deleted-has reading among rest follow None its same (λ before. tt) asked.1
  asked-has reading (Some unpacked) readings flags left its rest among same counted (flag, is, kept) follow =
      let both : flag ∷ left ≡ fails unpacked.list ∷ map fails (lists_of readings) = sym is ∙ counted in
      kept-has reading among rest follow unpacked flag its same (sym (cc both)) kept

  readings-have : (readings : List Reading) → ((reading : Reading) → Contains readings reading → Contains all reading) → (flags : List Bool) (edits : List PairEdit) →
      flags ≡ map fails (lists_of readings) → AreAskedFor digest readings flags edits → AtAnyTime edits
  readings-have [] known flags edits counted is = subst AtAnyTime (sym is) (λ before. tt)
  readings-have (reading ∷ readings) known flags edits counted (left, its, rest, asked, follow, parts) =
      let others = readings-have readings (λ other within. known other (later reading readings other within)) left rest
      (asked-flags reading.unpacked reading.bytes readings flags left its counted asked) follow in
      subst AtAnyTime (sym parts) (asked-has reading reading.unpacked readings flags left its rest (known reading (here reading readings)) refl counted asked others)

  shown-has : (shown : Verdict) (edits rest : List PairEdit) → verdict ≡ shown → IsShownSaved digest shown edits → AtAnyTime rest → AtAnyTime (edits ++ rest)
  shown-has Passed edits rest same is follow = subst (λ (l : List PairEdit). AtAnyTime (l ++ rest)) (sym is) follow
  shown-has GaveUp edits rest same is follow = subst (λ (l : List PairEdit). AtAnyTime (l ++ rest)) (sym is) follow
  shown-has (Failed shown found spent) edits rest same (fresh, stored, is) follow = subst (λ (l : List PairEdit). AtAnyTime (l ++ rest)) (sym is)
      (λ before. ((refl, inl (subst (λ (v : Verdict). IsOfShown v fresh) (sym same) stored)), follow (SavePair digest fresh ∷ before)))

  edits-have : (edits : List PairEdit) → AreEdits digest all verdict (map fails (lists_of all)) edits → AtAnyTime edits
  edits-have edits (first, rest, saved, asked, parts) =
      subst AtAnyTime (sym parts) (shown-has verdict first rest refl saved (readings-have all (λ reading within. within) (map fails (lists_of all)) rest refl asked))

  -- ---- some first ones of them have their reasons among themselves

  first-have : (made left before : List PairEdit) → HaveReasons before (made ++ left) → HaveReasons before made
  first-have [] left before have = tt
  first-have (edit ∷ made) left before have = (have.0, first-have made left (edit ∷ before) have.1)

  reason-later : (found : Option Unpacked) (before among : List PairEdit) → ((edit : PairEdit) → IsIn edit before → IsIn edit among) → Reason before found → Reason among found
  reason-later None before among known reason = tt
  reason-later (Some unpacked) before among known reason = ⊎_elim
      (λ passing. inl passing)
      (λ (failing, first, fresh, stored, saved). inr (failing, first, fresh, stored, known (SavePair digest fresh) saved))
      reason

  has-later : (edit : PairEdit) (before among : List PairEdit) → ((edit : PairEdit) → IsIn edit before → IsIn edit among) → HasReason before edit → HasReason among edit
  has-later (SavePair d b) before among known has = has
  has-later (DeletePair d b) before among known (its, reading, within, is, reason) = (its, reading, within, is, reason-later reading.unpacked before among known reason)

  -- an edit among these has its reason among all that were made
  its-reason : (made before among : List PairEdit) → HaveReasons before made → ((edit : PairEdit) → IsIn edit before → IsIn edit among) →
      ((edit : PairEdit) → IsIn edit made → IsIn edit among) → (edit : PairEdit) → IsIn edit made → HasReason among edit
  its-reason [] before among have known are edit within = absurd within
  its-reason (first ∷ made) before among have known are edit within = ⊎_elim
      (λ same. subst (HasReason among) same (has-later first before among known have.0))
      (λ later. its-reason made (first ∷ before) among have.1 (λ other. λ either. ⊎_elim (λ same. are other (inl same)) (known other) either) (λ other has. are other (inr has)) edit later)
      within

  module _ (edits made left : List PairEdit) (are : AreEdits digest all verdict (map fails (lists_of all)) edits) (parts : edits ≡ made ++ left) where
    reason-of : (edit : PairEdit) → IsIn edit made → HasReason made edit
    reason-of = its-reason made [] made (first-have made left [] (subst (HaveReasons []) parts (edits-have edits are []))) (λ edit none. absurd none) (λ edit within. within)

    -- ---- what that means for what is stored

    module _ (old new : Files) (edited : IsAfter made old new) where
      pub nothing-invented : NothingIsInvented digest fails verdict all old new
      nothing-invented d b has = ⊎_elim
          (λ was. inl was)
          (λ saved. inr (reason-of (SavePair d b) saved))
          (was-or-saved made (IsStored old) d b ((edited.stored d b).0 has))

      module _ (spelled : All IsSpelled all) where
        spells : (reading : Reading) → Contains all reading → IsUnpacked reading.bytes reading.unpacked
        spells reading (k, within, is) = subst IsSpelled is (spelled k reading within)

        -- no reason speaks against the version 2 of a list that fails
        no-reason : (list : List Choice) (fresh : List ℕ) (before : List PairEdit) (found : Option Unpacked) → Stored list fresh → length list ≤ 256 → fails list ≡ true →
            IsUnpacked fresh found → Reason before found → ⊥
        no-reason list fresh before None stored few failing unpacks reason = unpacks list (inl stored, few)
        no-reason list fresh before (Some unpacked) stored few failing unpacks reason = ⊎_elim
            (λ passing. absurd (cc (passing, failing, ap fails (one_unpacked unpacked.list list fresh unpacks.0 (inl stored, few)))))
            (λ (fail, first, other_fresh, spelled_by, saved). let (other, one) = unpacks.1.0 first in one_version list other fresh stored one)
            reason

        never-deleted : (list : List Choice) (fresh : List ℕ) → Stored list fresh → length list ≤ 256 → fails list ≡ true → ¬ IsIn (DeletePair digest fresh) made
        never-deleted list fresh stored few failing deleted =
            let (its, reading, within, is, reason) = reason-of (DeletePair digest fresh) deleted in
            no-reason list fresh made reading.unpacked stored few failing (subst (λ (b : List ℕ). IsUnpacked b reading.unpacked) is (spells reading within)) reason

        may-go : (bytes : List ℕ) (found : Option Unpacked) → IsUnpacked bytes found → Reason made found → MayGo fails (IsStored new digest) found
        may-go bytes None unpacks reason = tt
        may-go bytes (Some unpacked) unpacks reason = ⊎_elim
            (λ passing. inl passing)
            (λ (failing, first, fresh, stored, saved).
            inr (
              first,
              fresh,
              stored,
              (edited.stored digest fresh).1 (saved-stays made (IsStored old) digest fresh saved (never-deleted unpacked.list fresh stored unpacks.0.1 failing)),
            ))
            reason

        pub nothing-lost : NothingIsLost digest fails all old new
        nothing-lost d b was = ⊎_elim
            (λ has. inl ((edited.stored d b).1 has))
            (λ deleted.
            let (its, reading, within, is, reason) = reason-of (DeletePair d b) deleted in
            inr (its, (reading, within, is, may-go reading.bytes reading.unpacked (spells reading within) reason)))
            (there-or-deleted made (IsStored old) d b was)

-- the failure that is shown is saved, and no edit deletes it
pub shown-stored : (digest : List ℕ) (fails : List Choice → Bool) (all : List Reading) (shown : Record) (found : Found) (spent : Bool) (edits : List PairEdit)
    (old new : Files) → All IsSpelled all → fails shown.choices ≡ true → AreEdits digest all (Failed shown found spent) (map fails (lists_of all)) edits →
    IsAfter edits old new → (fresh : List ℕ) × Stored shown.choices fresh × IsStored new digest fresh
shown-stored digest fails all shown found spent edits old new spelled failing are edited =
    let (first, rest, (fresh, stored, is), asked, parts) = are in
    let whole : edits ≡ edits ++ [] = sym (append-nil edits) in
    let saved : IsIn (SavePair digest fresh) edits =
    subst (λ (l : List PairEdit). IsIn (SavePair digest fresh) l) (sym (parts ∙ ap (λ (l : List PairEdit). l ++ rest) is)) (inl refl) in
    let never = never-deleted digest fails (Failed shown found spent) all edits edits [] are whole old new edited spelled shown.choices fresh stored
    shown.few_choices failing in
    (fresh, stored, (edited.stored digest fresh).1 (saved-stays edits (IsStored old) digest fresh saved never))
