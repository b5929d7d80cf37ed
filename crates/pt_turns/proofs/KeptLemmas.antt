-- A failure that is shown stays stored.
use Rattle.std.proofs.Common.{◌≡◌, ◌⊎◌, inl, inr, ⊎_elim, ℕ, suc, Bool, true, false, List, [], ◌∷◌, ◌++◌, map, Option, Some, None, refl, sym, ◌∙◌, ap, subst, append_assoc, append-nil, arith}
use Rattle.std.specs.Prelude.{Contains, All}
use Rattle.std.specs.List.{AllByRecursion}
use Rattle.pt_choice.specs.declared.choice.Choice.{Choice}
use Rattle.pt_case.specs.Ending.{is_failure}
use Rattle.pt_case.specs.Run.{IsRecord}
use Rattle.pt_case.specs.Source.{Listed}
use Rattle.pt_case.specs.Step.{Answer}
use Rattle.pt_case.specs.declared.record.Record.{Record}
use Rattle.pt_case.proofs.RecordLemmas.{record-once}
use Rattle.pt_ast.specs.Trees.{BodyTree, Check_of, Property_of, Machine_of, ItemTree}
use Rattle.pt_ast.specs.declared.suite.Settings.{Settings}
use Rattle.pt_plan.specs.Says.{plan_says}
use Rattle.pt_prop.specs.Property.{property_plan}
use Rattle.pt_machine.specs.Machine.{machine_plan}
use Rattle.pt_item.specs.Item.{OfBody}
use Rattle.pt_disk.specs.Files.{Files}
use Rattle.pt_disk.specs.Moments.{Told}
use Rattle.pt_found.specs.declared.finding.Finding.{Finding}
use Rattle.pt_found.specs.declared.finding.Verdict.{Verdict}
use Rattle.pt_found.specs.declared.finding.Verdict.TheVariants.{Passed, GaveUp, Failed}
use Rattle.pt_engine.specs.Finding.{IsFinding, ReplaysItself}
use Rattle.pt_engine.specs.Outcome.{AreRecords, flags_of}
use Rattle.pt_stored.specs.Stored.{IsStored}
use Rattle.pt_wire.specs.Stored.{Stored}
use Rattle.pt_wire.specs.Unpacked.{Unpacks, IsUnpacked}
use Rattle.pt_wire.specs.declared.unpacking.Unpacked.{Unpacked}
use Rattle.pt_wire.proofs.StoredLists.{one_unpacked, one_version}
use Rattle.pt_edits.specs.Pairs.{Pairs, PairEdit, SavePair, DeletePair, bytes_of, digest_of as edit_digest, after_all, AreUnder, StoresAfter}
use Rattle.pt_edits.specs.Readings.{IsSpelled, IsRenewed, IsKeptOrNot, IsAskedBy, AreAskedFor, IsShownSaved, AreEdits, list_in, lists_of}
use Rattle.pt_edits.specs.declared.reading.Reading.{Reading}
use Rattle.pt_edits.proofs.FateLemmas.{IsIn, saved-stays}
use Rattle.pt_edits.proofs.SetLemmas.{after-all-append}
use Rattle.pt_edits.proofs.UnderLemmas.{edits-under}
use Rattle.pt_turns.specs.Kept.{IsKept, AreKept}
use Rattle.pt_turns.specs.Turn.{Turn, digest_of}
use Rattle.pt_turns.specs.Turns.{AreTurnsAfter}

here : {X : Type 0} (x : X) (xs : List X) → Contains (x ∷ xs) x
here x xs = (0, omega arith, refl)

later : {X : Type 0} (x : X) (xs : List X) (y : X) → Contains xs y → Contains (x ∷ xs) y
later x xs y (k, within, is) = (suc k, omega (arith, within), is)

pub in-either : (edit : PairEdit) (one more : List PairEdit) → IsIn edit (one ++ more) → IsIn edit one ⊎ IsIn edit more
in-either edit [] more within = inr within
in-either edit (first ∷ one) more within = ⊎_elim
    (λ same. inl (inl same))
    (λ other. ⊎_elim (λ early. inl (inr early)) (λ late. inr late) (in-either edit one more other))
    within

pub in-first : (edit : PairEdit) (one more : List PairEdit) → IsIn edit one → IsIn edit (one ++ more)
in-first edit [] more within = absurd within
in-first edit (first ∷ one) more within = ⊎_elim (λ same. inl same) (λ other. inr (in-first edit one more other)) within

-- ---- the edits of one turn

module _ (step : List Choice → Answer → Type 0) (digest : List ℕ) (shown : Record) (own : IsRecord step shown.choices shown)
    (fails : is_failure shown.ending ≡ true) (fresh : List ℕ) (stored : Stored shown.choices fresh) where
  abbrev Never : List PairEdit → Type 0
  Never edits = ¬ IsIn (DeletePair digest fresh) edits

  never-both : (one more : List PairEdit) → Never one → Never more → Never (one ++ more)
  never-both one more first second within = ⊎_elim first second (in-either (DeletePair digest fresh) one more within)

  is-shown : (bytes : List ℕ) → bytes ≡ fresh → Unpacks bytes shown.choices
  is-shown bytes same = subst (λ (b : List ℕ). Unpacks b shown.choices) (sym same) (inl stored, shown.few_choices)

  -- the value spells no list
  other-none : (bytes : List ℕ) → IsUnpacked bytes None → ¬ bytes ≡ fresh
  other-none bytes unpacks same = unpacks shown.choices (is-shown bytes same)

  -- its list does not fail
  other-passing : (bytes : List ℕ) (unpacked : Unpacked) (rec : Record) → IsUnpacked bytes (Some unpacked) → IsRecord step unpacked.list rec →
      is_failure rec.ending ≡ false → ¬ bytes ≡ fresh
  other-passing bytes unpacked rec unpacks is passes same =
      let list = one_unpacked unpacked.list shown.choices bytes unpacks.0 (is-shown bytes same) in
      let one = record-once step (Listed shown.choices) rec shown (subst (λ (l : List Choice). IsRecord step l rec) list is) own in
      absurd (cc (passes, fails, ap (λ (r : Record). is_failure r.ending) one))

  is-shown-stored : (bytes : List ℕ) → bytes ≡ fresh → Stored shown.choices bytes
  is-shown-stored bytes same = subst (λ (b : List ℕ). Stored shown.choices b) (sym same) stored

  -- it is of version 1
  other-old : (bytes : List ℕ) (unpacked : Unpacked) → IsUnpacked bytes (Some unpacked) → unpacked.old ≡ true → ¬ bytes ≡ fresh
  other-old bytes unpacked unpacks old same =
      let (list, one) = unpacks.1.0 old in
      one_version shown.choices list bytes (is-shown-stored bytes same) one

  never-deletes : (bytes : List ℕ) → ¬ bytes ≡ fresh → Never (DeletePair digest bytes ∷ [])
  never-deletes bytes other within = ⊎_elim (λ same. other (ap bytes_of same)) (λ none. none) within

  renewed-never : (bytes : List ℕ) (unpacked : Unpacked) (old : Bool) (edits : List PairEdit) → IsUnpacked bytes (Some unpacked) → unpacked.old ≡ old →
      IsRenewed digest bytes unpacked.list old edits → Never edits
  renewed-never bytes unpacked true edits unpacks old (saved, spelled, is) = subst Never (sym is)
      (λ within. ⊎_elim (λ same. absurd (cc same)) (never-deletes bytes (other-old bytes unpacked unpacks old)) within)
  renewed-never bytes unpacked false edits unpacks old is = subst Never (sym is) (λ none. none)

  kept-never : (bytes : List ℕ) (unpacked : Unpacked) (rec : Record) (flag : Bool) (edits : List PairEdit) → IsUnpacked bytes (Some unpacked) →
      IsRecord step unpacked.list rec → is_failure rec.ending ≡ flag → IsKeptOrNot digest bytes unpacked flag edits → Never edits
  kept-never bytes unpacked rec true edits unpacks is flag kept = renewed-never bytes unpacked unpacked.old edits unpacks refl kept
  kept-never bytes unpacked rec false edits unpacks is flag deleted =
      subst Never (sym deleted) (never-deletes bytes (other-passing bytes unpacked rec unpacks is flag))

  -- the edits of one reading, and the records of the lists of the others
  asked-one : (bytes : List ℕ) (found : Option Unpacked) (lists : List (List Choice)) (records : List Record) (flags left : List Bool) (its : List PairEdit) →
      IsUnpacked bytes found → AreRecords step (list_in found ++ lists) records → flags ≡ flags_of records → IsAskedBy digest bytes found flags left its →
      Never its × ((others : List Record) × AreRecords step lists others × (left ≡ flags_of others))
  asked-one bytes None lists records flags left its unpacks are same (left_is, deleted) =
      (subst Never (sym deleted) (never-deletes bytes (other-none bytes unpacks)), (records, are, left_is ∙ same))
  asked-one bytes (Some unpacked) lists [] flags left its unpacks are same asked = absurd are
  asked-one bytes (Some unpacked) lists (rec ∷ records) flags left its unpacks (is, are) same (flag, flags_are, kept) =
      let both : flag ∷ left ≡ is_failure rec.ending ∷ flags_of records = sym flags_are ∙ same in
      let first : is_failure rec.ending ≡ flag = cc both in
      (kept-never bytes unpacked rec flag its unpacks is first kept, (records, are, cc both))

  asked-never : (readings : List Reading) (records : List Record) (flags : List Bool) (edits : List PairEdit) →
      ((reading : Reading) → Contains readings reading → IsSpelled reading) → AreRecords step (lists_of readings) records → flags ≡ flags_of records →
      AreAskedFor digest readings flags edits → Never edits
  asked-never [] records flags edits spelled are same is = subst Never (sym is) (λ none. none)
  asked-never (reading ∷ readings) records flags edits spelled are same (left, its, rest, asked, follow, parts) =
      let (never, (others, those, left_are)) =
      asked-one reading.bytes reading.unpacked (lists_of readings) records flags left its (spelled reading (here reading readings)) are same asked
      in
      subst Never (sym parts)
      (never-both its rest never (asked-never readings others left rest (λ other within. spelled other (later reading readings other within)) those left_are follow))

-- the edits of a turn save the failure that is shown, and do not delete it
abbrev pub Saves : List ℕ → Verdict → List PairEdit → Type 0
Saves digest Passed edits = Unit {0}
Saves digest GaveUp edits = Unit {0}
Saves digest (Failed shown found spent) edits =
    (fresh : List ℕ) × Stored shown.choices fresh × IsIn (SavePair digest fresh) edits × ¬ IsIn (DeletePair digest fresh) edits

pub edits-save : (step : List Choice → Answer → Type 0) (digest : List ℕ) (verdict : Verdict) (readings : List Reading) (records : List Record) (flags : List Bool)
    (edits : List PairEdit) → ReplaysItself step verdict → All IsSpelled readings → AreRecords step (lists_of readings) records → flags ≡ flags_of records →
    AreEdits digest readings verdict flags edits → Saves digest verdict edits
edits-save step digest Passed readings records flags edits replays spelled are same is = tt
edits-save step digest GaveUp readings records flags edits replays spelled are same is = tt
edits-save step digest (Failed shown found spent) readings records flags edits replays spelled are same (first, rest, (fresh, stored, saved), asked, parts) =
    let never = asked-never step digest shown replays.0 replays.1 fresh stored readings records flags rest
    (λ reading (k, within, is). subst IsSpelled is (spelled k reading within)) are same asked in
    let whole : edits ≡ SavePair digest fresh ∷ rest = parts ∙ ap (λ (l : List PairEdit). l ++ rest) saved in (
      fresh,
      stored,
      subst (IsIn (SavePair digest fresh)) (sym whole) (inl refl),
      subst (λ (l : List PairEdit). ¬ IsIn (DeletePair digest fresh) l) (sym whole) (λ within. ⊎_elim (λ is. absurd (cc is)) never within),
    )

module _ {C : Type 0} (name : C → List ℕ) (step : C → List Choice → Answer → Type 0) (checks : List C) (seed : ℕ) where
  module _ (digest : List ℕ) (readings : List Reading) (finding : Finding) (edits : List PairEdit) (spelled : All IsSpelled readings)
      (are : AreEdits digest readings finding.verdict finding.failing edits) where
    found-save : (says : List Choice → Answer → Type 0) (word : List ℕ) (settings : Settings) →
        IsFinding says word seed settings.runs settings.shrink (lists_of readings) finding × ReplaysItself says finding.verdict → Saves digest finding.verdict edits
    found-save says word settings (found, replays) =
        edits-save says digest finding.verdict readings found.is.records finding.failing edits replays spelled found.is.replayed (found.flags ∙ found.is.flags) are

    body-save : (word : List ℕ) (settings : Settings) (body : BodyTree) →
        OfBody name step checks word settings body (λ says.
        IsFinding says word seed settings.runs settings.shrink (lists_of readings) finding × ReplaysItself says finding.verdict) → Saves digest finding.verdict edits
    body-save word settings Check_of (place, check, at, named, said) = found-save (step check) word settings said
    body-save word settings (Property_of stmts) said = found-save (plan_says (property_plan stmts)) word settings said
    body-save word settings (Machine_of machine) said = found-save (plan_says (machine_plan machine settings.steps)) word settings said

  module _ (told : Option Told) where
    turn-save : (done : List PairEdit) (item : ItemTree) (finding : Finding) (edits : List PairEdit) → Turn name step checks seed told done item finding edits →
        Saves (digest_of item) finding.verdict edits
    turn-save done item finding edits turn =
        body-save (digest_of item) turn.readings finding edits turn.spelled turn.edited item.name.name item.settings item.body turn.examined.found

    -- ---- the edits of later turns

    -- an edit of another digest
    abbrev pub IsOther : List ℕ → PairEdit → Type 0
    IsOther digest edit = ¬ edit_digest edit ≡ digest

    all-others : (digest : List ℕ) (edits : List PairEdit) → AllByRecursion (IsOther digest) edits → (bytes : List ℕ) → ¬ IsIn (DeletePair digest bytes) edits
    all-others digest [] others bytes within = within
    all-others digest (edit ∷ edits) others bytes within =
        ⊎_elim (λ same. others.0 (ap edit_digest same)) (all-others digest edits others.1 bytes) within

    others-both : (digest : List ℕ) (one more : List PairEdit) → AllByRecursion (IsOther digest) one → AllByRecursion (IsOther digest) more →
        AllByRecursion (IsOther digest) (one ++ more)
    others-both digest [] more first second = second
    others-both digest (edit ∷ one) more first second = (first.0, others-both digest one more first.1 second)

    under-others : (digest other : List ℕ) (edits : List PairEdit) → ¬ other ≡ digest → AreUnder other edits → AllByRecursion (IsOther digest) edits
    under-others digest other [] differ under = tt
    under-others digest other (edit ∷ edits) differ under = ((λ same. differ (sym under.0 ∙ same)), under-others digest other edits differ under.1)

    -- what comes after the edits that were done, and of no item with this digest
    pub turns-rest : (digest : List ℕ) (done : List PairEdit) (items : List ItemTree) (findings : List Finding) (all : List PairEdit) →
        AreTurnsAfter name step checks seed told done items findings all → AllByRecursion (λ other. ¬ digest_of other ≡ digest) items →
        (rest : List PairEdit) × (all ≡ done ++ rest) × AllByRecursion (IsOther digest) rest
    turns-rest digest done [] [] all turns differ = ([], turns ∙ sym (append-nil done), tt)
    turns-rest digest done [] (finding ∷ findings) all turns differ = absurd turns
    turns-rest digest done (item ∷ items) [] all turns differ = absurd turns
    turns-rest digest done (item ∷ items) (finding ∷ findings) all (edits, turn, turns) differ =
        let (rest, parts, others) = turns-rest digest (done ++ edits) items findings all turns differ.1 in
        let under = edits-under (digest_of item) turn.readings finding.verdict finding.failing edits turn.edited in (
          edits ++ rest,
          parts ∙ append_assoc done edits rest,
          others-both digest edits rest (under-others digest (digest_of item) edits differ.0 under) others,
        )

    -- ---- what is stored at the end

    module _ (start image : Files) (more : List PairEdit) where
      saved-kept : (digest : List ℕ) (verdict : Verdict) (done edits rest all : List PairEdit) → Saves digest verdict edits → all ≡ (done ++ edits) ++ rest →
          AllByRecursion (IsOther digest) rest → AllByRecursion (IsOther digest) more → StoresAfter (all ++ more) start image → IsKept image digest verdict
      saved-kept digest Passed done edits rest all saves parts early late after = tt
      saved-kept digest GaveUp done edits rest all saves parts early late after = tt
      saved-kept digest (Failed shown found spent) done edits rest all (fresh, stored, saved, never) parts early late after =
          let tail = rest ++ more in
          let whole : all ++ more ≡ done ++ (edits ++ tail) =
          ap (λ (l : List PairEdit). l ++ more) parts ∙ append_assoc (done ++ edits) rest more ∙ append_assoc done edits tail in
          let gone = all-others digest tail (others-both digest rest more early late) fresh in
          let there = saved-stays (edits ++ tail) (after_all done (IsStored start)) digest fresh (in-first (SavePair digest fresh) edits tail saved)
          (λ within. ⊎_elim never gone (in-either (DeletePair digest fresh) edits tail within)) in
          let joined = (after-all-append done (edits ++ tail) (IsStored start) digest fresh).1 there in (
            fresh,
            stored,
            (after digest fresh).1 (subst (λ (l : List PairEdit). after_all l (IsStored start) digest fresh) (sym whole) joined),
          )

      pub kept-after : (done : List PairEdit) (items : List ItemTree) (findings : List Finding) (all : List PairEdit) →
          AreTurnsAfter name step checks seed told done items findings all → StoresAfter (all ++ more) start image → AreKept image more items findings
      kept-after done [] [] all turns after = tt
      kept-after done [] (finding ∷ findings) all turns after = absurd turns
      kept-after done (item ∷ items) [] all turns after = absurd turns
      kept-after done (item ∷ items) (finding ∷ findings) all (edits, turn, turns) after = (
        (λ differ late.
            let (rest, parts, early) = turns-rest (digest_of item) (done ++ edits) items findings all turns differ in
            saved-kept (digest_of item) finding.verdict done edits rest all (turn-save done item finding edits turn) parts early late after),
        kept-after (done ++ edits) items findings all turns after,
      )
