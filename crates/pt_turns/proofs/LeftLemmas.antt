-- What the edits of a turn leave under its key: values that spell lists that fail.
use Rattle.std.proofs.Common.{◌≡◌, ◌⊎◌, inl, inr, ⊎_elim, ℕ, Bool, true, false, List, [], ◌∷◌, ◌++◌, map, Option, Some, None, refl, sym, ◌∙◌, ap, subst, arith}
use Rattle.std.specs.Prelude.{Contains, All}
use Rattle.pt_choice.specs.declared.choice.Choice.{Choice}
use Rattle.pt_case.specs.Ending.{is_failure}
use Rattle.pt_case.specs.Run.{IsRecord}
use Rattle.pt_case.specs.Step.{Answer}
use Rattle.pt_case.specs.declared.record.Record.{Record}
use Rattle.pt_found.specs.declared.finding.Verdict.{Verdict}
use Rattle.pt_found.specs.declared.finding.Verdict.TheVariants.{Passed, GaveUp, Failed}
use Rattle.pt_engine.specs.Outcome.{AreRecords, flags_of}
use Rattle.pt_wire.specs.Stored.{Stored}
use Rattle.pt_wire.specs.Unpacked.{Unpacks, IsUnpacked}
use Rattle.pt_wire.specs.declared.unpacking.Unpacked.{Unpacked}
use Rattle.pt_edits.specs.Differences.{IsOfShown}
use Rattle.pt_edits.specs.Pairs.{Pairs, PairEdit, SavePair, DeletePair, bytes_of, after, after_all}
use Rattle.pt_edits.specs.Readings.{IsSpelled, IsRenewed, IsKeptOrNot, IsAskedBy, AreAskedFor, IsShownSaved, AreEdits, AreOfKey, list_in, lists_of}
use Rattle.pt_edits.specs.declared.reading.Reading.{Reading}
use Rattle.pt_edits.proofs.FateLemmas.{IsIn, was-or-saved}
use Rattle.pt_turns.proofs.KeptLemmas.{in-either, in-first}
use Rattle.pt_turns.proofs.SameReadings.{here, there, first-or-later}

in-later : (edit : PairEdit) (one more : List PairEdit) → IsIn edit more → IsIn edit (one ++ more)
in-later edit [] more within = within
in-later edit (first ∷ one) more within = inr (in-later edit one more within)

-- a pair that was deleted and is there was saved
deleted-saved : (edits : List PairEdit) (S : Pairs) (d b : List ℕ) → IsIn (DeletePair d b) edits → after_all edits S d b → IsIn (SavePair d b) edits
deleted-saved [] S d b deleted has = absurd deleted
deleted-saved (edit ∷ edits) S d b deleted has = ⊎_elim
    (λ first. ⊎_elim
    (λ was. let gone : after (DeletePair d b) S d b = subst (λ (e : PairEdit). after e S d b) first was in absurd (gone.1 (refl, refl)))
    (λ saved. inr saved)
    (was-or-saved edits (after edit S) d b has))
    (λ later. inr (deleted-saved edits (after edit S) d b later has))
    deleted

-- the value is that of a reading
pub read-of : (readings : List Reading) (b : List ℕ) → Contains (map (λ reading. reading.bytes) readings) b →
    (reading : Reading) × Contains readings reading × (reading.bytes ≡ b)
read-of [] b among = absurd (omega (arith, among.1))
read-of (reading ∷ readings) b among = ⊎_elim
    (λ is. (reading, here reading readings, is))
    (λ later. let (other, inside, is) = read-of readings b later in (other, there reading readings other inside, is))
    (first-or-later reading.bytes (map (λ reading. reading.bytes) readings) b among)

module _ (step : List Choice → Answer → Type 0) (all : List Record) where
  -- the bytes spell a list whose record is one of these, and fails
  pub record IsOfFailure (bytes : List ℕ) : Type 0 where
    pub list : List Choice
    pub spelled : Unpacks bytes list
    pub rec : Record
    pub is : IsRecord step list rec
    pub among : Contains all rec
    pub fails : is_failure rec.ending ≡ true

  module _ (digest : List ℕ) where
    -- what is saved spells a list that fails
    abbrev SaveFailures : List PairEdit → Type 0
    SaveFailures edits = (b : List ℕ) → IsIn (SavePair digest b) edits → IsOfFailure b

    -- the value spells a list that fails, or it is deleted
    abbrev IsDealtWith : List ℕ → List PairEdit → Type 0
    IsDealtWith bytes edits = IsOfFailure bytes ⊎ IsIn (DeletePair digest bytes) edits

    save-both : (one more : List PairEdit) → SaveFailures one → SaveFailures more → SaveFailures (one ++ more)
    save-both one more first second b within = ⊎_elim (first b) (second b) (in-either (SavePair digest b) one more within)

    dealt-first : (bytes : List ℕ) (one more : List PairEdit) → IsDealtWith bytes one → IsDealtWith bytes (one ++ more)
    dealt-first bytes one more dealt = ⊎_elim (λ fails. inl fails) (λ deleted. inr (in-first (DeletePair digest bytes) one more deleted)) dealt

    dealt-later : (bytes : List ℕ) (one more : List PairEdit) → IsDealtWith bytes more → IsDealtWith bytes (one ++ more)
    dealt-later bytes one more dealt = ⊎_elim (λ fails. inl fails) (λ deleted. inr (in-later (DeletePair digest bytes) one more deleted)) dealt

    save-none : (bytes : List ℕ) → SaveFailures (DeletePair digest bytes ∷ [])
    save-none bytes b within = ⊎_elim (λ same. absurd (cc same)) (λ none. absurd none) within

    deletes : (bytes : List ℕ) (edits : List PairEdit) → edits ≡ DeletePair digest bytes ∷ [] → SaveFailures edits × IsDealtWith bytes edits
    deletes bytes edits is =
        (subst SaveFailures (sym is) (save-none bytes), inr (subst (IsIn (DeletePair digest bytes)) (sym is) (inl refl)))

    renewed-saves : (bytes : List ℕ) (list : List Choice) (old : Bool) (edits : List PairEdit) → ((fresh : List ℕ) → Stored list fresh → IsOfFailure fresh) →
        IsRenewed digest bytes list old edits → SaveFailures edits
    renewed-saves bytes list true edits fails (fresh, stored, is) = subst SaveFailures (sym is)
        (λ b within. ⊎_elim (λ same. subst IsOfFailure (ap bytes_of same) (fails fresh stored)) (λ rest. save-none bytes b rest) within)
    renewed-saves bytes list false edits fails is = subst SaveFailures (sym is) (λ b none. absurd none)

    kept-deals : (bytes : List ℕ) (unpacked : Unpacked) (rec : Record) (flag : Bool) (edits : List PairEdit) → IsUnpacked bytes (Some unpacked) →
        IsRecord step unpacked.list rec → Contains all rec → is_failure rec.ending ≡ flag → IsKeptOrNot digest bytes unpacked flag edits →
        SaveFailures edits × IsDealtWith bytes edits
    kept-deals bytes unpacked rec true edits unpacks is among fails kept =
        let of : (b : List ℕ) → Unpacks b unpacked.list → IsOfFailure b =
        λ b spelled. record { list = unpacked.list; spelled = spelled; rec = rec; is = is; among = among; fails = fails } in
        (renewed-saves bytes unpacked.list unpacked.old edits (λ fresh stored. of fresh (inl stored, unpacks.0.1)) kept, inl (of bytes unpacks.0))
    kept-deals bytes unpacked rec false edits unpacks is among passes deleted = deletes bytes edits deleted

    -- these are the records of the lists that are left, and their flags
    abbrev HasRest : List (List Choice) → List Bool → Type 0
    HasRest lists left = (others : List Record) × AreRecords step lists others × ((rec : Record) → Contains others rec → Contains all rec) × (left ≡ flags_of others)

    asked-one : (bytes : List ℕ) (found : Option Unpacked) (lists : List (List Choice)) (records : List Record) (flags left : List Bool) (edits : List PairEdit) →
        IsUnpacked bytes found → AreRecords step (list_in found ++ lists) records → ((rec : Record) → Contains records rec → Contains all rec) →
        flags ≡ flags_of records → IsAskedBy digest bytes found flags left edits → (SaveFailures edits × IsDealtWith bytes edits) × HasRest lists left
    asked-one bytes None lists records flags left edits unpacks are within same (left_is, deleted) =
        (deletes bytes edits deleted, (records, are, within, left_is ∙ same))
    asked-one bytes (Some unpacked) lists [] flags left edits unpacks are within same asked = absurd are
    asked-one bytes (Some unpacked) lists (rec ∷ records) flags left edits unpacks (is, are) within same (flag, flags_are, kept) =
        let both : flag ∷ left ≡ is_failure rec.ending ∷ flags_of records = sym flags_are ∙ same in
        let first : is_failure rec.ending ≡ flag = cc both in (
          kept-deals bytes unpacked rec flag edits unpacks is (within rec (here rec records)) first kept,
          (records, are, (λ other inside. within other (there rec records other inside)), cc both),
        )

    asked-all : (readings : List Reading) (records : List Record) (flags : List Bool) (edits : List PairEdit) →
        ((reading : Reading) → Contains readings reading → IsSpelled reading) → AreRecords step (lists_of readings) records →
        ((rec : Record) → Contains records rec → Contains all rec) → flags ≡ flags_of records → AreAskedFor digest readings flags edits →
        SaveFailures edits × ((reading : Reading) → Contains readings reading → IsDealtWith reading.bytes edits)
    asked-all [] records flags edits spelled are within same is =
        (subst SaveFailures (sym is) (λ b none. absurd none), λ reading among. absurd (omega (arith, among.1)))
    asked-all (reading ∷ readings) records flags edits spelled are within same (left, its, rest, asked, follow, parts) =
        let ((save, dealt), (others, those, inside, left_are)) =
        asked-one reading.bytes reading.unpacked (lists_of readings) records flags left its (spelled reading (here reading readings)) are within same asked
        in
        let (save_rest, rest_dealt) =
        asked-all readings others left rest (λ other among. spelled other (there reading readings other among)) those inside left_are follow
        in (
          subst SaveFailures (sym parts) (save-both its rest save save_rest),
          λ one among. subst (IsDealtWith one.bytes) (sym parts) (⊎_elim
              (λ same. dealt-first one.bytes its rest (subst (λ (r : Reading). IsDealtWith r.bytes its) same dealt))
              (λ later. dealt-later one.bytes its rest (rest_dealt one later))
              (first-or-later reading readings one among)),
        )

    -- what is saved first is the failure that is shown
    shown-saves : (verdict : Verdict) (edits : List PairEdit) (b : List ℕ) → IsShownSaved digest verdict edits → IsIn (SavePair digest b) edits → IsOfShown verdict b
    shown-saves Passed edits b is within = absurd (subst (IsIn (SavePair digest b)) is within)
    shown-saves GaveUp edits b is within = absurd (subst (IsIn (SavePair digest b)) is within)
    shown-saves (Failed shown found spent) edits b (fresh, stored, is) within = ⊎_elim
        (λ same. subst (Stored shown.choices) (ap bytes_of same) stored)
        (λ none. absurd none)
        (subst (IsIn (SavePair digest b)) is within)

    module _ (verdict : Verdict) (readings : List Reading) (flags : List Bool) (edits : List PairEdit) (spelled : All IsSpelled readings)
        (are : AreRecords step (lists_of readings) all) (same : flags ≡ flags_of all) (made : AreEdits digest readings verdict flags edits) where
      asked : SaveFailures made.1 × ((reading : Reading) → Contains readings reading → IsDealtWith reading.bytes made.1)
      asked = asked-all readings all flags made.1 (λ reading among. subst IsSpelled among.2 (spelled among.0 reading among.1)) are (λ rec among. among) same made.3

      saved-fails : (b : List ℕ) → IsIn (SavePair digest b) edits → IsOfFailure b ⊎ IsOfShown verdict b
      saved-fails b within = ⊎_elim
          (λ early. inr (shown-saves verdict made.0 b made.2 early))
          (λ late. inl (asked.0 b late))
          (in-either (SavePair digest b) made.0 made.1 (subst (IsIn (SavePair digest b)) made.4 within))

      -- what is stored under the key after the edits spells a list that fails, or the failure that is shown
      pub left-fails : (S : Pairs) → AreOfKey S digest readings → (b : List ℕ) → after_all edits S digest b → IsOfFailure b ⊎ IsOfShown verdict b
      left-fails S of_key b has = ⊎_elim
          (λ was. let (reading, among, is) = read-of readings b ((of_key b).1 was) in
          let dealt = subst (λ (v : List ℕ). IsDealtWith v made.1) is (asked.1 reading among) in
          ⊎_elim
          (λ fails. inl fails)
          (λ deleted. saved-fails b
          (deleted-saved edits S digest b (subst (IsIn (DeletePair digest b)) (sym made.4) (in-later (DeletePair digest b) made.0 made.1 deleted)) has))
          dealt)
          (saved-fails b)
          (was-or-saved edits S digest b has)
