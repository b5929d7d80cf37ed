-- A printed failure replays to exactly itself.
use Rattle.std.proofs.Common.{◌≡◌, ◌⊎◌, inl, inr, ℕ, Bool, true, false, List, [], Option, Some, None, refl, sym, ◌∙◌, ap, subst, arith}
use Rattle.std.specs.Prelude.{Contains, IsSome, map}
use Rattle.pt_choice.specs.declared.choice.Choice.{Choice}
use Rattle.pt_ast.specs.Trees.{ItemTree, SuiteTree}
use Rattle.pt_parse.specs.Suites.{Reads, HasFault}
use Rattle.pt_parse.specs.declared.fault.SuiteFault.{SuiteFault}
use Rattle.pt_typing.specs.Laws.{SuitesAreDecided}
use Rattle.pt_case.specs.Ending.{is_failure}
use Rattle.pt_case.specs.Source as source
use Rattle.pt_case.specs.Step.{Answer}
use Rattle.pt_case.specs.Run.{IsRecord}
use Rattle.pt_case.specs.declared.record.Record.{Record}
use Rattle.pt_case.proofs.RecordLemmas.{record-once}
use Rattle.pt_found.specs.declared.finding.Finding.{Finding}
use Rattle.pt_found.specs.declared.finding.Found.{Found}
use Rattle.pt_found.specs.declared.finding.Verdict.TheVariants.{Failed}
use Rattle.pt_engine.specs.Finding.{IsFinding, ReplaysItself}
use Rattle.pt_io.specs.Files.{IsSame}
use Rattle.pt_io.specs.Reading.{IsWithinLimit}
use Rattle.pt_item.specs.Item.{OfItem}
use Rattle.pt_report.specs.Report.{IsReplay}
use Rattle.pt_report.specs.declared.refusal.Refusal.TheVariants as refusal
use Rattle.pt_turns.specs.Examined.{Examined}
use Rattle.pt_commands.specs.declared.message.Message.{Message}
use Rattle.pt_commands.specs.declared.message.Message.TheVariants.{Refused, Replayed, Listed, Marked}
use Rattle.pt_run.specs.Call.{Call, Answers, HasSuite, IsQuiet, AsksAgain, Replays}
use Rattle.pt_run.specs.Ends.{Ends, Says, reported_of}
use Rattle.pt_commands.specs.Message.{Tells, TellsAll, TellsPart}
use Rattle.pt_run.specs.Outside.{scene_of}
use Rattle.pt_run.specs.Suite.{HaveOwnNames, IsTaken}
use Rattle.pt_commands.specs.Words.{Asked, Run, Replay, Stored, Make, Explain, Asks, AsksRun}
use Rattle.pt_commands.proofs.Asking.{Alike, asks_alike}
use Rattle.pt_run.proofs.Completeness.{on_suite}
use Rattle.pt_run.proofs.Items.{IsFoundIn, finding_of, of_both, of_one, only_one, own_distinct}
use Rattle.pt_run.proofs.Messages.{HasBytes-some}

-- what is there
pub some_of : {A : Type 0} (value : Option A) → IsSome value → (it : A) × (value ≡ Some it)
some_of None some = absurd (let none : false ≡ true = some in cc)
some_of (Some it) some = (it, refl)

module _ {C : Type 0} (name : C → List ℕ) (step : C → List Choice → Answer → Type 0) (checks : List C) where
  -- what is said of the failure that is shown
  abbrev IsFoundAs : ItemTree → ℕ → List (List Choice) → Finding → (List Choice → Answer → Type 0) → Type 0
  IsFoundAs item seed stored finding says =
      IsFinding says item.name.name seed item.settings.runs item.settings.shrink stored finding × ReplaysItself says finding.verdict

  -- the finding has the item's name
  named_as : (seed : ℕ) (stored : List (List Choice)) (item : ItemTree) (finding : Finding) → Examined name step checks seed stored item finding →
      finding.name ≡ item.name.name
  named_as seed stored item finding examined =
      of_one name step checks item.name.name item.settings item.body (IsFoundAs item seed stored finding) (finding.name ≡ item.name.name) examined.found
      (λ says found. found.0.named)

  -- the record of the choices that were shown is what was shown
  same_record : HaveOwnNames name checks → (seed : ℕ) (stored : List (List Choice)) (item : ItemTree) (finding : Finding) (shown rec : Record) (found : Found)
      (spent : Bool) → Examined name step checks seed stored item finding → finding.verdict ≡ Failed shown found spent →
      OfItem name step checks item (λ says. IsRecord says shown.choices rec) → (rec ≡ shown) × (is_failure shown.ending ≡ true)
  same_record own seed stored item finding shown rec found spent examined failed again =
      of_both name step checks (own_distinct name checks own) item.name.name item.settings item.body (IsFoundAs item seed stored finding)
      (λ says. IsRecord says shown.choices rec) ((rec ≡ shown) × (is_failure shown.ending ≡ true)) examined.found again
      (λ says first second.
      let itself = rw failed at first.1 in
      (record-once says (source.Listed shown.choices) rec shown second itself.0, itself.1))

  -- the suite of a run that has this finding, and the item that it was found out of
  record IsOf (run : Call) (file : List ℕ) (finding : Finding) : Type 0 where
    pub suite : SuiteTree
    pub taken : IsTaken (map name checks) run.before.files run.after.files file suite
    pub seed : ℕ
    pub found : IsFoundIn name step checks seed suite.items finding

  of_one_run : (run : Call) (one : Asked) (file : List ℕ) (seed workers : ℕ) (finding : Finding) → Alike one (Run file seed workers) →
      Ends name step checks one run.before run.after run.finish → Contains run.finish.findings finding → IsOf run file finding
  of_one_run run (Run other seed' workers') file seed workers finding alike (inl (suite, taken, does)) has = record {
    suite = suite;
    taken = subst (λ (f : List ℕ). IsTaken (map name checks) run.before.files run.after.files f suite) alike.0 taken;
    seed = seed';
    found = finding_of name step checks seed' suite.items (reported_of run.finish) finding (scene_of run.before) (scene_of run.after) does.0 has;
  }
  of_one_run run (Run other seed' workers') file seed workers finding alike (inr (said, turned, tells, rests)) has =
      let here : Contains [] finding = subst (λ (fs : List Finding). Contains fs finding) tells.findings has in
      absurd (omega (arith, here.1))
  of_one_run run (Replay other wanted list) file seed workers finding alike ends has = absurd alike
  of_one_run run Stored file seed workers finding alike ends has = absurd alike
  of_one_run run (Make seed' count) file seed workers finding alike ends has = absurd alike
  of_one_run run (Explain other wanted list) file seed workers finding alike ends has = absurd alike

  of_run : (run : Call) (file : List ℕ) (seed workers : ℕ) (finding : Finding) → Answers name step checks run → AsksRun run.words file seed workers →
      Contains run.finish.findings finding → IsOf run file finding
  of_run run file seed workers finding (inl (nothing, tells)) asks has = absurd (nothing (Run file seed workers) asks)
  of_run run file seed workers finding (inr (one, words, ends)) asks has =
      of_one_run run one file seed workers finding (asks_alike run.words one (Run file seed workers) words asks) ends has

  module _ (own : HaveOwnNames name checks) (run again : Call) (file : List ℕ) (finding : Finding) (shown : Record) (found : Found) (spent : Bool)
      (of : IsOf run file finding) (failed : finding.verdict ≡ Failed shown found spent) (quiet : IsQuiet again) where
    -- a replay of its choices that was told of an item of that name replays it
    of_told : (title : List ℕ) (rec : Record) → title ≡ finding.name → rec ≡ shown →
        is_failure shown.ending ≡ true → Tells (Replayed title rec) again.finish again.before.sink again.after.sink → Replays again finding.name shown
    of_told title rec is is_record fails tells = of_tells tells.told
      where
        of_tells : TellsAll (Replayed title rec) tells.text again.finish again.before.sink again.after.sink
            ⊎ TellsPart tells.text again.finish again.before.sink again.after.sink → Replays again finding.name shown
        of_tells (inl all) = record {
          status = let ends = ap (λ (r : Record). is_failure r.ending) is_record ∙ fails in rw ends at all.status;
          replayed = all.replayed ∙ ap Some is_record;
          text = tells.text;
          is_text = subst (λ (t : List ℕ). IsReplay t shown tells.text) is (subst (λ (r : Record). IsReplay title r tells.text) is_record tells.is_text);
          written = all.written;
        }
        of_tells (inr part) = absurd (quiet.sink part.cause)

    title_is : finding.name ≡ of.found.item.name.name
    title_is = named_as of.seed of.found.stored of.found.item finding of.found.examined

    of_says : (wanted : List ℕ) (list : List Choice) (message : Message) → wanted ≡ finding.name → list ≡ shown.choices →
        Says name step checks of.suite wanted list message → Tells message again.finish again.before.sink again.after.sink → Replays again finding.name shown
    of_says wanted list (Replayed title rec) is_wanted is_list says tells =
        let one : says.0 ≡ of.found.item =
        only_one (λ (item : ItemTree). item.name.name) of.suite.items says.0 of.found.item of.taken.sound.typed.distinct says.1.0 of.found.has
        (says.1.1 ∙ is_wanted ∙ title_is) in
        let on_item : OfItem name step checks of.found.item (λ s. IsRecord s list rec) =
        subst (λ (item : ItemTree). OfItem name step checks item (λ s. IsRecord s list rec)) one says.3 in
        let on_list : OfItem name step checks of.found.item (λ s. IsRecord s shown.choices rec) =
        subst (λ (l : List Choice). OfItem name step checks of.found.item (λ s. IsRecord s l rec)) is_list on_item in
        let same = same_record own of.seed of.found.stored of.found.item finding shown rec found spent of.found.examined failed on_list in
        of_told title rec (says.2 ∙ is_wanted) same.0 same.1 tells
    of_says wanted list (Listed entries) is_wanted is_list says tells = absurd says
    of_says wanted list (Marked title rec explained) is_wanted is_list says tells = absurd says
    of_says wanted list (Refused refusal.UnknownItem) is_wanted is_list says tells =
        absurd (says of.found.item (of.found.has, sym title_is ∙ sym is_wanted))
    of_says wanted list (Refused refusal.Usage) is_wanted is_list says tells = absurd says
    of_says wanted list (Refused (refusal.Suite at which)) is_wanted is_list says tells = absurd says
    of_says wanted list (Refused refusal.Read) is_wanted is_list says tells = absurd says
    of_says wanted list (Refused refusal.Database) is_wanted is_list says tells = absurd says
    of_says wanted list (Refused refusal.Clash) is_wanted is_list says tells = absurd says
    of_says wanted list (Refused refusal.TooLarge) is_wanted is_list says tells = absurd says

  module _ (one_suite : (bytes : List ℕ) (suite other : SuiteTree) → Reads bytes suite → Reads bytes other → suite ≡ other)
      (not_both : (bytes : List ℕ) (suite : SuiteTree) (fault : SuiteFault) → Reads bytes suite → HasFault bytes fault → ⊥) (decided : SuitesAreDecided) where
    module _ (own : HaveOwnNames name checks) (run again : Call) (file : List ℕ) (finding : Finding) (shown : Record) (found : Found) (spent : Bool)
        (of : IsOf run file finding) (failed : finding.verdict ≡ Failed shown found spent) (quiet : IsQuiet again) where
      of_again : (one : Asked) → Alike one (Replay file finding.name shown.choices) → Ends name step checks one again.before again.after again.finish →
          IsSome run.before.files.named → IsSame run.before.files again.before.files → Replays again finding.name shown
      of_again (Replay other wanted list) alike ends told same =
          let content = some_of run.before.files.named told in
          let bytes = HasBytes-some run.before.files file (λ bytes. IsWithinLimit bytes × Reads bytes of.suite) content.0 of.taken.read content.1 in
          let has : HasSuite (map name checks) again.before.files other (λ suite. Unit {0}) = record {
            content = content.0;
            told = same.named ∙ content.1;
            bytes = bytes.0;
            there = rw alike.0 bytes.1;
            small = bytes.2.0;
            suite = of.suite;
            reads = bytes.2.1;
            typed = of.taken.sound.typed;
            has = tt;
          } in
          let does = on_suite name step checks one_suite not_both decided again other _ (λ suite. Unit {0}) ends has quiet.files in
          of_says own run again file finding shown found spent of failed quiet wanted list does.0 alike.1 alike.2 does.1 does.2
      of_again (Run other seed workers) alike ends told same = absurd alike
      of_again Stored alike ends told same = absurd alike
      of_again (Make seed count) alike ends told same = absurd alike
      of_again (Explain other wanted list) alike ends told same = absurd alike

    pub replays : (run again : Call) (file : List ℕ) (seed workers : ℕ) (finding : Finding) (shown : Record) (found : Found) (spent : Bool) →
        HaveOwnNames name checks → Answers name step checks run → AsksRun run.words file seed workers →
        Contains run.finish.findings finding → finding.verdict ≡ Failed shown found spent →
        IsSome run.before.files.named → IsSame run.before.files again.before.files →
        Answers name step checks again → AsksAgain again.words file finding.name shown → IsQuiet again → Replays again finding.name shown
    replays run again file seed workers finding shown found spent own answers asks has failed told same answered words quiet = of_answer answered
      where
        of : IsOf run file finding
        of = of_run run file seed workers finding answers asks has

        asks_again : Asks again.words (Replay file finding.name shown.choices)
        asks_again = record { word = words.choices; spelled = words.spelled; printed = words.printed; few = shown.few_choices }

        of_answer : Answers name step checks again → Replays again finding.name shown
        of_answer (inl (nothing, tells)) = absurd (nothing (Replay file finding.name shown.choices) asks_again)
        of_answer (inr (one, asked, ends)) =
            of_again own run again file finding shown found spent of failed quiet one
            (asks_alike again.words one (Replay file finding.name shown.choices) asked asks_again) ends told same
