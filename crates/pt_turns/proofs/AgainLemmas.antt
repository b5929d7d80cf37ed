-- A second run begins with the failures that the first one showed.
use Rattle.std.proofs.Common.{◌≡◌, ◌⊎◌, inl, inr, ⊎_elim, ℕ, Bool, true, List, [], ◌∷◌, ◌++◌, map, Option, Some, None, refl, sym, ◌∙◌, ap, subst, arith}
use Rattle.std.specs.Prelude.{◌↔◌, Contains, All}
use Rattle.std.specs.List.{AllByRecursion}
use Rattle.std.proofs.lemmas.Grind.{common_steps}
use Rattle.pt_choice.specs.declared.choice.Choice.{Choice}
use Rattle.pt_choice.specs.Order.{shortlex, IsShorter}
use Rattle.pt_choice.proofs.OrderLemmas.{shortlex-total, shortlex-exact, strict}
use Rattle.pt_case.specs.Ending.{is_failure}
use Rattle.pt_case.specs.Run.{IsRecord}
use Rattle.pt_case.specs.Source.{Listed}
use Rattle.pt_case.specs.Step.{Answer}
use Rattle.pt_case.specs.declared.record.Record.{Record}
use Rattle.pt_case.proofs.RecordLemmas.{record-once, record-again}
use Rattle.pt_ast.specs.Names.{AreDistinct}
use Rattle.pt_ast.specs.Trees.{BodyTree, Check_of, Property_of, Machine_of, ItemTree}
use Rattle.pt_ast.specs.declared.suite.Settings.{Settings}
use Rattle.pt_plan.specs.Says.{plan_says}
use Rattle.pt_prop.specs.Property.{property_plan}
use Rattle.pt_machine.specs.Machine.{machine_plan}
use Rattle.pt_item.specs.Item.{OfBody, OfItem}
use Rattle.pt_disk.specs.Folder.{reads}
use Rattle.pt_disk.specs.Moments.{Told, now}
use Rattle.pt_found.specs.Tried.{Tried}
use Rattle.pt_found.specs.declared.finding.Finding.{Finding}
use Rattle.pt_found.specs.declared.finding.Found.{Found}
use Rattle.pt_found.specs.declared.finding.Found.TheVariants.{Stored, Run}
use Rattle.pt_found.specs.declared.finding.Verdict.{Verdict}
use Rattle.pt_found.specs.declared.finding.Verdict.TheVariants as verdict
use Rattle.pt_found.proofs.VainLemmas.{leads-as_good}
use Rattle.pt_engine.specs.Agree.{AreAlike, Agree}
use Rattle.pt_engine.specs.Finding.{IsReduced, Follows, IsFinding, ReplaysItself}
use Rattle.pt_engine.specs.Outcome.{AreRecords, IsDecided, IsLeastFailure, flags_of, failures}
use Rattle.pt_engine.proofs.AgreeLemmas.{findings-agree}
use Rattle.pt_engine.specs.declared.outcome.Decision.{Decision}
use Rattle.pt_engine.specs.declared.outcome.Decision.TheVariants as decision
use Rattle.pt_stored.specs.Stored.{IsStored}
use Rattle.pt_wire.specs.Unpacked.{Unpacks, IsUnpacked}
use Rattle.pt_wire.specs.declared.unpacking.Unpacked.{Unpacked}
use Rattle.pt_wire.proofs.StoredLists.{one_unpacked}
use Rattle.pt_edits.specs.Differences.{IsOfShown}
use Rattle.pt_edits.specs.Pairs.{Pairs, PairEdit, after as after_edit, after_all, StoresAfter, digest_of as edit_digest}
use Rattle.pt_edits.specs.Readings.{IsSpelled, AreEdits, AreOfKey, list_in, lists_of}
use Rattle.pt_edits.specs.declared.reading.Reading.{Reading}
use Rattle.pt_edits.proofs.FateLemmas.{saved-stays}
use Rattle.pt_edits.proofs.SetLemmas.{after-all-append}
use Rattle.pt_edits.proofs.UnderLemmas.{all-append, edits-under}
use Rattle.pt_turns.specs.Again.{BeginsFrom, IsAsBefore, FindsAgain, AreFoundAgain}
use Rattle.pt_turns.specs.Turn.{Turn, digest_of}
use Rattle.pt_turns.specs.Turns.{AreTurnsAfter}
use Rattle.pt_turns.proofs.AgreeLemmas.{one-named}
use Rattle.pt_turns.proofs.KeptLemmas.{Saves, edits-save, turns-rest}
use Rattle.pt_turns.proofs.LeftLemmas.{left-fails, read-of}
use Rattle.pt_turns.proofs.OwnLemmas.{AreAmong, among-more, among-under, other-edit, others-left}
use Rattle.pt_turns.proofs.SameReadings.{here, there, first-or-later}

-- ---- lists and their readings

-- the reading spells the list
record IsReadOf (readings : List Reading) (list : List Choice) : Type 0 where
  pub reading : Reading
  pub unpacked : Unpacked
  pub among : Contains readings reading
  pub found : reading.unpacked ≡ Some unpacked
  pub is : unpacked.list ≡ list

read-later : (first : Reading) (readings : List Reading) (list : List Choice) → IsReadOf readings list → IsReadOf (first ∷ readings) list
read-later first readings list read = record {
  reading = read.reading;
  unpacked = read.unpacked;
  among = there first readings read.reading read.among;
  found = read.found;
  is = read.is;
}

read-first : (first : Reading) (readings : List Reading) (list : List Choice) (found : Option Unpacked) → first.unpacked ≡ found →
    (Contains (lists_of readings) list → IsReadOf readings list) → Contains (list_in found ++ lists_of readings) list → IsReadOf (first ∷ readings) list
read-first first readings list None same rest among = read-later first readings list (rest among)
read-first first readings list (Some unpacked) same rest among = ⊎_elim
    (λ is. record { reading = first; unpacked = unpacked; among = here first readings; found = same; is = is })
    (λ later. read-later first readings list (rest later))
    (first-or-later unpacked.list (lists_of readings) list among)

-- a list is that of one of the readings
reading-of : (readings : List Reading) (list : List Choice) → Contains (lists_of readings) list → IsReadOf readings list
reading-of [] list among = absurd (omega (arith, among.1))
reading-of (reading ∷ readings) list among =
    read-first reading readings list reading.unpacked refl (λ later. reading-of readings list later) among

behind : (found : Option Unpacked) (lists : List (List Choice)) (list : List Choice) → Contains lists list → Contains (list_in found ++ lists) list
behind None lists list among = among
behind (Some unpacked) lists list among = there unpacked.list lists list among

-- a reading that spells a list has it among its lists
list-of : (readings : List Reading) (reading : Reading) (unpacked : Unpacked) → Contains readings reading → reading.unpacked ≡ Some unpacked →
    Contains (lists_of readings) unpacked.list
list-of [] reading unpacked among found = absurd (omega (arith, among.1))
list-of (first ∷ readings) reading unpacked among found = ⊎_elim
    (λ same.
    let its : first.unpacked ≡ Some unpacked = ap (λ (r : Reading). r.unpacked) same ∙ found in
    subst (λ (f : Option Unpacked). Contains (list_in f ++ lists_of readings) unpacked.list) (sym its) (here unpacked.list (lists_of readings)))
    (λ later. behind first.unpacked (lists_of readings) unpacked.list (list-of readings reading unpacked later found))
    (first-or-later first readings reading among)

-- so has one whose bytes spell the list
holds-list : (readings : List Reading) (reading : Reading) (found : Option Unpacked) (bytes : List ℕ) (list : List Choice) → Contains readings reading →
    reading.unpacked ≡ found → IsUnpacked bytes found → Unpacks bytes list → Contains (lists_of readings) list
holds-list readings reading None bytes list among found unpacks spelled = absurd (unpacks list spelled)
holds-list readings reading (Some unpacked) bytes list among found unpacks spelled =
    subst (Contains (lists_of readings)) (one_unpacked unpacked.list list bytes unpacks.0 spelled) (list-of readings reading unpacked among found)

bytes-of : (readings : List Reading) (reading : Reading) → Contains readings reading → Contains (map (λ reading. reading.bytes) readings) reading.bytes
bytes-of [] reading among = absurd (omega (arith, among.1))
bytes-of (first ∷ readings) reading among = ⊎_elim
    (λ same. subst (λ (b : List ℕ). Contains (first.bytes ∷ map (λ (r : Reading). r.bytes) readings) b) (ap (λ (r : Reading). r.bytes) same)
    (here first.bytes (map (λ (r : Reading). r.bytes) readings)))
    (λ later. there first.bytes (map (λ (r : Reading). r.bytes) readings) reading.bytes (bytes-of readings reading later))
    (first-or-later first readings reading among)

-- ---- records

-- where none fails, no member fails
none-fails : (records : List Record) (rec : Record) → failures records ≡ 0 → Contains records rec → is_failure rec.ending ≡ true → ⊥
none-fails [] rec none among fails = absurd (omega (arith, among.1))
none-fails (head ∷ records) rec none among fails = ⊎_elim
    (λ same. let first : is_failure head.ending ≡ true = subst (λ (r : Record). is_failure r.ending ≡ true) (sym same) fails in grind (arith, common_steps, first, none))
    (λ later. none-fails records rec (grind (arith, common_steps, none)) later fails)
    (first-or-later head records rec among)

-- of two lists neither of which comes before the other, the one is the other
neither-shorter : (one other : List Choice) → ¬ IsShorter one other → ¬ IsShorter other one → one ≡ other
neither-shorter one other a b = ⊎_elim
    (λ less. absurd (a less.0))
    (λ rest. ⊎_elim (λ same. same.1) (λ less. absurd (b less.2)) rest)
    ((strict shortlex shortlex-total shortlex-exact).total one other)

all-true : (records : List Record) → ((rec : Record) → Contains records rec → is_failure rec.ending ≡ true) → AllByRecursion (λ flag. flag ≡ true) (flags_of records)
all-true [] fails = tt
all-true (rec ∷ records) fails = (fails rec (here rec records), all-true records (λ other among. fails other (there rec records other among)))

nothing : {X : Type 0} (xs : List X) → ((x : X) → Contains xs x → ⊥) → xs ≡ []
nothing [] none = refl
nothing (x ∷ xs) none = absurd (none x (here x xs))

no-flags : (records : List Record) → ((rec : Record) → Contains records rec → ⊥) → flags_of records ≡ []
no-flags [] none = refl
no-flags (rec ∷ records) none = absurd (none rec (here rec records))

module _ (step : List Choice → Answer → Type 0) where
  -- a record is that of one of the lists, and a list has its record
  record-of : (lists : List (List Choice)) (records : List Record) (rec : Record) → AreRecords step lists records → Contains records rec →
      (list : List Choice) × Contains lists list × IsRecord step list rec
  record-of [] records rec are among = absurd (let none = subst (λ (rs : List Record). Contains rs rec) are among in omega (arith, none.1))
  record-of (list ∷ lists) [] rec are among = absurd are
  record-of (list ∷ lists) (head ∷ records) rec (is, are) among = ⊎_elim
      (λ same. (list, here list lists, subst (IsRecord step list) same is))
      (λ later. let (other, inside, its) = record-of lists records rec are later in (other, there list lists other inside, its))
      (first-or-later head records rec among)

  record-for : (lists : List (List Choice)) (records : List Record) (list : List Choice) → AreRecords step lists records → Contains lists list →
      (rec : Record) × Contains records rec × IsRecord step list rec
  record-for [] records list are among = absurd (omega (arith, among.1))
  record-for (first ∷ lists) [] list are among = absurd are
  record-for (first ∷ lists) (head ∷ records) list (is, are) among = ⊎_elim
      (λ same. (head, here head records, subst (λ (l : List Choice). IsRecord step l head) same is))
      (λ later. let (rec, inside, its) = record-for lists records list are later in (rec, there head records rec inside, its))
      (first-or-later first lists list among)

  -- a finding that shows a failure shows nothing higher than the failing records of the stored lists
  shown-least : (seed runs budget seen valid : ℕ) (records : List Record) (made : Decision) (shown : Record) (found : Found) (spent : Bool) (trail : List Tried) →
      IsDecided step seed runs records made seen valid → Follows step budget made (verdict.Failed shown found spent) trail →
      (rec : Record) → Contains records rec → is_failure rec.ending ≡ true → ¬ IsShorter rec.choices shown.choices
  shown-least seed runs budget seen valid records decision.Passed shown found spent trail decided follows rec among fails less = cc follows.0
  shown-least seed runs budget seen valid records decision.GaveUp shown found spent trail decided follows rec among fails less = cc follows.0
  shown-least seed runs budget seen valid records (decision.Failed first (Run run)) shown found spent trail decided follows rec among fails less =
      none-fails records rec decided.0 among fails
  shown-least seed runs budget seen valid records (decision.Failed first Stored) shown found spent trail decided (reduced_to, used, told, reduced) rec among fails less =
      let same : shown ≡ reduced_to = cc told in
      let good = leads-as_good step first trail reduced.legal.strangers reduced_to reduced.legal.leads in
      let lower : IsShorter rec.choices reduced_to.choices = subst (λ (r : Record). IsShorter rec.choices r.choices) same less in
      decided.0.least_choices rec among fails (⊎_elim
      (λ (is : reduced_to.choices ≡ first.choices). subst (λ (l : List Choice). IsShorter rec.choices l) is lower)
      (λ (below : IsShorter reduced_to.choices first.choices). shortlex-total.trans rec.choices reduced_to.choices first.choices lower below)
      good.below)

  -- a finding that shows none is of stored lists that do not fail
  none-shown : (seed runs budget seen valid : ℕ) (records : List Record) (made : Decision) (told : Verdict) (trail : List Tried) →
      IsDecided step seed runs records made seen valid → Follows step budget made told trail → ((shown : Record) (found : Found) (spent : Bool) → ¬ told ≡ verdict.Failed shown found spent) →
      failures records ≡ 0
  none-shown seed runs budget seen valid records decision.Passed told trail decided follows never = decided.0
  none-shown seed runs budget seen valid records decision.GaveUp told trail decided follows never = decided.0
  none-shown seed runs budget seen valid records (decision.Failed first found) told trail decided (reduced_to, used, is, reduced) never = absurd (never reduced_to found used is)

  -- what is decided where no stored list fails is so with nothing stored
  of-none : (seed runs : ℕ) (records : List Record) (made : Decision) (seen valid : ℕ) → failures records ≡ 0 → IsDecided step seed runs records made seen valid →
      IsDecided step seed runs [] made seen valid
  of-none seed runs records decision.Passed seen valid none decided = (refl, decided.1)
  of-none seed runs records decision.GaveUp seen valid none decided = (refl, decided.1)
  of-none seed runs records (decision.Failed first (Run run)) seen valid none decided = (refl, decided.1)
  of-none seed runs records (decision.Failed first Stored) seen valid none decided = absurd (none-fails records first none decided.0.among decided.0.fails)

  -- a failing record among those of the stored lists, and one that is least there
  begins : (seed runs budget seen valid : ℕ) (records : List Record) (made : Decision) (told : Verdict) (trail : List Tried) (shown : Record) →
      IsDecided step seed runs records made seen valid → Follows step budget made told trail → Contains records shown → is_failure shown.ending ≡ true →
      ((least : Record) → IsLeastFailure records least → least ≡ shown) →
      (again : Record) × (spent : Bool) × (told ≡ verdict.Failed again Stored spent) × (seen ≡ 0) × IsReduced step budget shown again trail spent
  begins seed runs budget seen valid records decision.Passed told trail shown decided follows among fails one = absurd (none-fails records shown decided.0 among fails)
  begins seed runs budget seen valid records decision.GaveUp told trail shown decided follows among fails one = absurd (none-fails records shown decided.0 among fails)
  begins seed runs budget seen valid records (decision.Failed first (Run run)) told trail shown decided follows among fails one =
      absurd (none-fails records shown decided.0 among fails)
  begins seed runs budget seen valid records (decision.Failed first Stored) told trail shown decided (again, spent, is, reduced) among fails one =
      (again, spent, is, decided.1, subst (λ (r : Record). IsReduced step budget r again trail spent) (one first decided.0) reduced)

  -- ---- two findings of one check, the second over what the edits of the first one's turn left

  -- the record is the failure that is shown
  abbrev IsShown : Verdict → Record → Type 0
  IsShown verdict.Passed rec = ⊥
  IsShown verdict.GaveUp rec = ⊥
  IsShown (verdict.Failed shown found spent) rec = rec ≡ shown

  module _ (digest word : List ℕ) (settings : Settings) (seed anew : ℕ) (readings rereadings : List Reading) (one other : Finding)
      (edits : List PairEdit) (S : Pairs) (spelled : All IsSpelled readings) (spelled_again : All IsSpelled rereadings) (of_key : AreOfKey S digest readings)
      (left : (b : List ℕ) → Contains (map (λ reading. reading.bytes) rereadings) b ↔ after_all edits S digest b)
      (made : AreEdits digest readings one.verdict one.failing edits)
      (first : IsFinding step word seed settings.runs settings.shrink (lists_of readings) one) (replays : ReplaysItself step one.verdict)
      (second : IsFinding step word anew settings.runs settings.shrink (lists_of rereadings) other) where
    -- what a value spells that is read again
    of-shown : (told : Verdict) (bytes : List ℕ) (list : List Choice) (rec : Record) → ReplaysItself step told → IsOfShown told bytes →
        (unpacked : Unpacked) → IsUnpacked bytes (Some unpacked) → unpacked.list ≡ list → IsRecord step list rec → IsShown told rec
    of-shown verdict.Passed bytes list rec itself is unpacked unpacks same its = absurd is
    of-shown verdict.GaveUp bytes list rec itself is unpacked unpacks same its = absurd is
    of-shown (verdict.Failed shown found spent) bytes list rec itself is unpacked unpacks same its =
        let lists : unpacked.list ≡ shown.choices = one_unpacked unpacked.list shown.choices bytes unpacks.0 (inl is, shown.few_choices) in
        record-once step (Listed shown.choices) rec shown (subst (λ (l : List Choice). IsRecord step l rec) (sym same ∙ lists) its) itself.0

    list-fails : (list : List Choice) (rec : Record) → Contains (lists_of rereadings) list → IsRecord step list rec →
        (Contains first.is.records rec × (is_failure rec.ending ≡ true)) ⊎ IsShown one.verdict rec
    list-fails list rec among is =
        let read = reading-of rereadings list among in
        let bytes = read.reading.bytes in
        let unpacks : IsUnpacked bytes (Some read.unpacked) = subst (IsUnpacked bytes) read.found
        (subst IsSpelled read.among.2 (spelled_again read.among.0 read.reading read.among.1)) in
        ⊎_elim
        (λ failure.
        let lists : list ≡ failure.list = sym read.is ∙ one_unpacked read.unpacked.list failure.list bytes unpacks.0 failure.spelled in
        let same : failure.rec ≡ rec =
        record-once step (Listed failure.list) failure.rec rec failure.is (subst (λ (l : List Choice). IsRecord step l rec) lists is) in
        inl (subst (Contains first.is.records) same failure.among, subst (λ (r : Record). is_failure r.ending ≡ true) same failure.fails))
        (λ shown. inr (of-shown one.verdict bytes list rec replays shown read.unpacked unpacks read.is is))
        (left-fails step first.is.records digest one.verdict readings one.failing edits spelled first.is.replayed (first.flags ∙ first.is.flags) made S of_key bytes
        ((left bytes).0 (bytes-of rereadings read.reading read.among)))

    record-fails : (rec : Record) → Contains second.is.records rec →
        (Contains first.is.records rec × (is_failure rec.ending ≡ true)) ⊎ IsShown one.verdict rec
    record-fails rec among =
        let (list, inside, is) = record-of (lists_of rereadings) second.is.records rec second.is.replayed among in
        list-fails list rec inside is

    -- where no failure was shown, no list is read again
    module _ (told : Verdict) (none : (rec : Record) → IsShown told rec → ⊥) (never : (shown : Record) (found : Found) (spent : Bool) → ¬ told ≡ verdict.Failed shown found spent)
        (same : one.verdict ≡ told) where
      passing : failures first.is.records ≡ 0
      passing = none-shown seed settings.runs settings.shrink first.outcome.seen first.outcome.valid first.is.records first.outcome.decision told one.trail
          first.is.decided (subst (λ (v : Verdict). Follows step settings.shrink first.outcome.decision v one.trail) same first.follows) never

      no-record : (rec : Record) → Contains second.is.records rec → ⊥
      no-record rec among = ⊎_elim
          (λ both. none-fails first.is.records rec passing both.0 both.1)
          (λ is_shown. none rec (subst (λ (v : Verdict). IsShown v rec) same is_shown))
          (record-fails rec among)

      no-list : (list : List Choice) → Contains (lists_of rereadings) list → ⊥
      no-list list among =
          let (rec, within, its) = record-for (lists_of rereadings) second.is.records list second.is.replayed among in
          no-record rec within

      -- the first finding, but of no stored lists
      bare : Finding
      bare = record {
        name = one.name;
        verdict = one.verdict;
        seen = one.seen;
        valid = one.valid;
        runs = one.runs;
        budget = one.budget;
        failing = [];
        trail = one.trail;
      }

      bare-is : IsFinding step word seed settings.runs settings.shrink [] bare
      unfolding bare
      bare-is = record {
        outcome = record { decision = first.outcome.decision; failing = []; seen = first.outcome.seen; valid = first.outcome.valid };
        is = record {
          records = [];
          replayed = refl;
          flags = refl;
          decided = of-none seed settings.runs first.is.records first.outcome.decision first.outcome.seen first.outcome.valid passing first.is.decided;
        };
        named = first.named;
        asked = first.asked;
        allowed = first.allowed;
        flags = refl;
        seen = first.seen;
        valid = first.valid;
        follows = first.follows;
      }

      agrees : seed ≡ anew → Agree step bare other
      agrees seeds = findings-agree step word anew settings.runs settings.shrink [] bare other
          (subst (λ (s : ℕ). IsFinding step word s settings.runs settings.shrink [] bare) seeds bare-is)
          (subst (λ (lists : List (List Choice)). IsFinding step word anew settings.runs settings.shrink lists other) (nothing (lists_of rereadings) no-list) second)

      as-before : (seed ≡ anew → AreAlike step one.budget one.verdict other.verdict one.trail other.trail → other.verdict ≡ one.verdict) →
          IsAsBefore seed anew one other
      unfolding bare
      as-before alike = record {
        none_stored = second.flags ∙ second.is.flags ∙ no-flags second.is.records no-record;
        verdict = λ seeds. alike seeds (agrees seeds).verdict;
        seen = λ seeds. sym (agrees seeds).seen;
        valid = λ seeds. sym (agrees seeds).valid;
      }

    module _ (shown : Record) (found : Found) (spent : Bool) (same : one.verdict ≡ verdict.Failed shown found spent) where
      itself : IsRecord step shown.choices shown × (is_failure shown.ending ≡ true)
      itself = subst (ReplaysItself step) same replays

      -- the failure that was shown is among the records of the lists that are read again
      shown-among : Contains second.is.records shown
      shown-among =
          let (fresh, stored, saved, never) = subst (λ (v : Verdict). Saves digest v edits) same
          (edits-save step digest one.verdict readings first.is.records one.failing edits replays spelled first.is.replayed (first.flags ∙ first.is.flags) made) in
          let (reading, among, is) = read-of rereadings fresh ((left fresh).1 (saved-stays edits S digest fresh saved never)) in
          let unpacks : IsUnpacked fresh reading.unpacked =
          subst (λ (b : List ℕ). IsUnpacked b reading.unpacked) is (subst IsSpelled among.2 (spelled_again among.0 reading among.1)) in
          let inside = holds-list rereadings reading reading.unpacked fresh shown.choices among refl unpacks (inl stored, shown.few_choices) in
          let (rec, within, its) = record-for (lists_of rereadings) second.is.records shown.choices second.is.replayed inside in
          subst (Contains second.is.records) {x = rec} (record-once step (Listed shown.choices) rec shown its itself.0) within

      -- and is the least failure of them
      shown-is-least : (least : Record) → IsLeastFailure second.is.records least → least ≡ shown
      shown-is-least least is = ⊎_elim
          (λ both.
          let (list, inside, its) = record-of (lists_of rereadings) second.is.records least second.is.replayed is.among in
          let higher = shown-least seed settings.runs settings.shrink first.outcome.seen first.outcome.valid first.is.records first.outcome.decision shown found spent one.trail
          first.is.decided (subst (λ (v : Verdict). Follows step settings.shrink first.outcome.decision v one.trail) same first.follows) least both.0 both.1 in
          let choices : least.choices ≡ shown.choices =
          neither-shorter least.choices shown.choices higher (is.least_choices shown shown-among itself.1) in
          record-once step (Listed shown.choices) least shown
          (subst (λ (l : List Choice). IsRecord step l least) choices (record-again step (Listed list) least its)) itself.0)
          (λ is_shown. subst (λ (v : Verdict). IsShown v least) same is_shown)
          (record-fails least is.among)

      begins-from : BeginsFrom step settings.shrink shown other
      begins-from =
          let (again, used, is, none, reduced) =
          begins anew settings.runs settings.shrink second.outcome.seen second.outcome.valid second.is.records second.outcome.decision other.verdict other.trail shown
          second.is.decided second.follows shown-among itself.1 shown-is-least in
          record {
            again = again;
            spent = used;
            found = is;
            no_runs = second.seen ∙ none;
            reduced = reduced;
            as_good = leads-as_good step shown other.trail reduced.legal.strangers again reduced.legal.leads;
            all_fail = subst (AllByRecursion (λ flag. flag ≡ true)) (sym (second.flags ∙ second.is.flags)) (all-true second.is.records (λ rec among. ⊎_elim
                (λ both. both.1)
                (λ is_shown. let its : rec ≡ shown = subst (λ (v : Verdict). IsShown v rec) same is_shown in subst (λ (r : Record). is_failure r.ending ≡ true) (sym its) itself.1)
                (record-fails rec among)));
          }

    finds-again : (told : Verdict) → one.verdict ≡ told → FindsAgain step settings.shrink seed anew told one other
    finds-again verdict.Passed same = as-before verdict.Passed (λ rec is_shown. is_shown) (λ shown found spent is. cc is) same
        (λ seeds alike. subst (λ (v : Verdict). AreAlike step one.budget v other.verdict one.trail other.trail) same alike ∙ sym same)
    finds-again verdict.GaveUp same = as-before verdict.GaveUp (λ rec is_shown. is_shown) (λ shown found spent is. cc is) same
        (λ seeds alike. subst (λ (v : Verdict). AreAlike step one.budget v other.verdict one.trail other.trail) same alike ∙ sym same)
    finds-again (verdict.Failed shown found spent) same = begins-from shown found spent same

-- ---- the turns of one item, and of all

-- edits under other digests leave what is stored under this one
rest-left : (digest : List ℕ) (rest : List PairEdit) (S : Pairs) (b : List ℕ) → AllByRecursion (λ edit. ¬ edit_digest edit ≡ digest) rest →
    after_all rest S digest b ↔ S digest b
rest-left digest [] S b others = (λ has. has, λ has. has)
rest-left digest (edit ∷ rest) S b others =
    let first = other-edit edit S digest b others.0 in
    let more = rest-left digest rest (after_edit edit S) b others.1 in
    (λ has. first.0 (more.0 has), λ has. more.1 (first.1 has))

module _ {C : Type 0} (name : C → List ℕ) (step : C → List Choice → Answer → Type 0) (checks : List C) (distinct : AreDistinct (map name checks))
    (seed anew : ℕ) where
  abbrev IsFoundBy : List ℕ → Settings → ℕ → List Reading → Finding → (List Choice → Answer → Type 0) → Type 0
  IsFoundBy word settings from readings finding says =
      IsFinding says word from settings.runs settings.shrink (lists_of readings) finding × ReplaysItself says finding.verdict

  module _ (digest : List ℕ) (readings rereadings : List Reading) (one other : Finding) (edits : List PairEdit) (S : Pairs) (spelled : All IsSpelled readings)
      (spelled_again : All IsSpelled rereadings) (of_key : AreOfKey S digest readings)
      (left : (b : List ℕ) → Contains (map (λ reading. reading.bytes) rereadings) b ↔ after_all edits S digest b)
      (made : AreEdits digest readings one.verdict one.failing edits) where
    said-again : (says : List Choice → Answer → Type 0) (word : List ℕ) (settings : Settings) → IsFoundBy word settings seed readings one says →
        IsFoundBy word settings anew rereadings other says → FindsAgain says settings.shrink seed anew one.verdict one other
    said-again says word settings a b =
        finds-again says digest word settings seed anew readings rereadings one other edits S spelled spelled_again of_key left made a.0 a.1 b.0 one.verdict refl

    body-again : (word : List ℕ) (settings : Settings) (body : BodyTree) → OfBody name step checks word settings body (IsFoundBy word settings seed readings one) →
        OfBody name step checks word settings body (IsFoundBy word settings anew rereadings other) →
        OfBody name step checks word settings body (λ says. FindsAgain says settings.shrink seed anew one.verdict one other)
    body-again word settings Check_of a b =
        let same : b.1 ≡ a.1 = one-named name checks b.0 a.0 b.1 a.1 distinct b.2 a.2 (b.3 ∙ sym a.3) in
        let P : C → Type 0 = λ check. IsFoundBy word settings anew rereadings other (step check) in
        (a.0, a.1, a.2, a.3, said-again (step a.1) word settings a.4 (subst P same b.4))
    body-again word settings (Property_of stmts) a b = said-again (plan_says (property_plan stmts)) word settings a b
    body-again word settings (Machine_of machine) a b = said-again (plan_says (machine_plan machine settings.steps)) word settings a b

  module _ (told telling : Told) (all : List PairEdit) (after : StoresAfter all (reads (now told)) (reads (now telling))) where
    turn-again : (earlier : List (List ℕ)) (item : ItemTree) (items : List ItemTree) (done did edits more rest : List PairEdit) (one other : Finding) →
        AreAmong earlier did → Turn name step checks seed (Some told) done item one edits → Turn name step checks anew (Some telling) did item other more →
        ¬ Contains earlier (digest_of item) → all ≡ (done ++ edits) ++ rest → AllByRecursion (λ edit. ¬ edit_digest edit ≡ digest_of item) rest →
        OfItem name step checks item (λ says. FindsAgain says item.settings.shrink seed anew one.verdict one other)
    turn-again earlier item items done did edits more rest one other between a b own parts others =
        let digest = digest_of item in
        let S : Pairs = IsStored (reads (now told)) in
        let left : (v : List ℕ) → Contains (map (λ reading. reading.bytes) b.readings) v ↔ after_all edits (after_all done S) digest v = λ v.
        let kept = others-left earlier did (IsStored (reads (now telling))) digest v between own in
        let whole : after_all all S digest v ↔ after_all ((done ++ edits) ++ rest) S digest v =
        subst (λ (l : List PairEdit). after_all all S digest v ↔ after_all l S digest v) parts (λ has. has, λ has. has) in
        let last = after-all-append (done ++ edits) rest S digest v in
        let gone = rest-left digest rest (after_all (done ++ edits) S) v others in
        let turned = after-all-append done edits S digest v in (
          λ has. turned.0 (gone.0 (last.0 (whole.0 ((after digest v).0 (kept.0 ((b.of_key v).0 has)))))),
          λ has. (b.of_key v).1 (kept.1 ((after digest v).1 (whole.1 (last.1 (gone.1 (turned.1 has)))))),
        ) in
        body-again digest a.readings b.readings one other edits (after_all done S) a.spelled b.spelled a.of_key left a.edited item.name.name item.settings item.body
        a.examined.found b.examined.found

    pub turns-again : (earlier : List (List ℕ)) (done did : List PairEdit) (items : List ItemTree) (one other : List Finding) (more : List PairEdit) →
        AreAmong earlier did → AreTurnsAfter name step checks seed (Some told) done items one all →
        AreTurnsAfter name step checks anew (Some telling) did items other more → AreFoundAgain name step checks seed anew earlier items one other
    turns-again earlier done did [] [] [] more between a b = tt
    turns-again earlier done did [] (one ∷ ones) others more between a b = absurd a
    turns-again earlier done did [] [] (other ∷ others) more between a b = absurd b
    turns-again earlier done did (item ∷ items) [] others more between a b = absurd a
    turns-again earlier done did (item ∷ items) (one ∷ ones) [] more between a b = absurd b
    turns-again earlier done did (item ∷ items) (one ∷ ones) (other ∷ others) more between (edits, turn, turns) (its, again, agains) =
        let digest = digest_of item in
        let theirs = edits-under digest again.readings other.verdict other.failing its again.edited in (
          (λ own differ.
              let (rest, parts, late) = turns-rest name step checks seed (Some told) digest (done ++ edits) items ones all turns differ in
              turn-again earlier item items done did edits its rest one other between turn again own parts late),
          turns-again (digest ∷ earlier) (done ++ edits) (did ++ its) items ones others more
              (all-append (λ edit. Contains (digest ∷ earlier) (edit_digest edit)) did its (among-more digest earlier did between) (among-under digest earlier its theirs)) turns agains,
        )
