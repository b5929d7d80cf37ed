-- Where the words ask for what can be done, and no call of the outside fails, it is done.
use Rattle.std.proofs.Common.{◌≡◌, ◌⊎◌, inl, inr, ℕ, ◌<◌, Bool, true, false, List, refl, sym, ◌∙◌, subst, arith, lit<, if◌then◌else◌}
use Rattle.std.specs.Prelude.{Option, Some, None, map}
use Rattle.pt_choice.specs.Faults.{Rose}
use Rattle.pt_choice.specs.declared.choice.Choice.{Choice}
use Rattle.pt_ast.specs.Trees.{ItemTree, SuiteTree}
use Rattle.pt_parse.specs.Suites.{Reads, HasFault}
use Rattle.pt_parse.specs.declared.fault.SuiteFault.{SuiteFault}
use Rattle.pt_typing.specs.Laws.{SuitesAreDecided}
use Rattle.pt_typing.specs.SuiteFaults.{FaultInSuite}
use Rattle.pt_case.specs.Ending.{is_failure}
use Rattle.pt_case.specs.Step.{Answer}
use Rattle.pt_case.specs.declared.record.Record.{Record}
use Rattle.pt_explain.specs.declared.explained.Explained.{Explained}
use Rattle.pt_io.specs.Files.{Shown}
use Rattle.pt_io.specs.Reading.{IsWithinLimit, IsPastLimit}
use Rattle.pt_io.specs.Sink.{Appends, AppendsPart}
use Rattle.pt_report.specs.Report.{IsReplay, summary}
use Rattle.pt_report.specs.declared.refusal.Refusal.{Refusal}
use Rattle.pt_report.specs.declared.refusal.Refusal.TheVariants as refusal
use Rattle.pt_stored.specs.declared.entry.Entry.{Entry}
use Rattle.pt_turns.specs.Finishes as turns
use Rattle.pt_commands.specs.declared.message.Message.{Message}
use Rattle.pt_commands.specs.declared.message.Message.TheVariants.{Refused, Replayed, Listed, Marked}
use Rattle.pt_run.specs.Call.{Call, Answers, HasSuite, IsDone, IsQuiet, IsRunnable}
use Rattle.pt_commands.specs.Ends.{Lists, Sums}
use Rattle.pt_run.specs.Ends.{Ends, Explains, IsItem, OnSuite, Says, reported_of}
use Rattle.pt_commands.specs.Explaining.{IsExplained, IsExplaining}
use Rattle.pt_commands.specs.Message.{Tells, TellsAll, TellsPart}
use Rattle.pt_run.specs.Outside.{scene_of}
use Rattle.pt_run.specs.Suite.{IsFaulty, IsTaken, IsTurnedDown}
use Rattle.pt_commands.specs.Words.{Asked, Run, Replay, Stored, Make, Explain, Asks}
use Rattle.pt_commands.proofs.Asking.{Alike, asks_alike}
use Rattle.pt_run.proofs.Items.{item_follows}
use Rattle.pt_run.proofs.Messages.{HasBytes-at, HasNone-not}

below_passed : (passed : Bool) → (if passed then 0 else 1) < 2
below_passed true = lit< tt
below_passed false = lit< tt

below_failed : (failed : Bool) → (if failed then 1 else 0) < 2
below_failed true = lit< tt
below_failed false = lit< tt

module _ (one_suite : (bytes : List ℕ) (suite other : SuiteTree) → Reads bytes suite → Reads bytes other → suite ≡ other) (known : List (List ℕ)) where
  -- the suite that was taken is the file's
  pub is_suite : (old new : Shown) (file : List ℕ) (suite other : SuiteTree) (content : List ℕ → Option (List ℕ)) (bytes : List ℕ) →
      IsTaken known old new file suite → old.named ≡ Some content → content file ≡ Some bytes → Reads bytes other → suite ≡ other
  is_suite old new file suite other content bytes taken told there reads =
      let here = HasBytes-at old file (λ bytes. IsWithinLimit bytes × Reads bytes suite) content bytes taken.read told there in
      one_suite bytes suite other here.1 reads

module _ (one_suite : (bytes : List ℕ) (suite other : SuiteTree) → Reads bytes suite → Reads bytes other → suite ≡ other)
    (not_both : (bytes : List ℕ) (suite : SuiteTree) (fault : SuiteFault) → Reads bytes suite → HasFault bytes fault → ⊥) (decided : SuitesAreDecided)
    (known : List (List ℕ)) (old new : Shown) (file : List ℕ) (Holds : SuiteTree → Type 0) (runnable : HasSuite known old file Holds) where
  -- a text that can be taken has no fault
  no_fault : (said : Refusal) → IsFaulty known runnable.bytes said → ⊥
  no_fault said (inl (fault, has, is)) = not_both runnable.bytes runnable.suite fault runnable.reads has
  no_fault said (inr (suite, fault, reads, has, is)) =
      let same : suite ≡ runnable.suite = one_suite runnable.bytes suite runnable.suite reads runnable.reads in
      let here : FaultInSuite known runnable.suite fault = subst (λ (s : SuiteTree). FaultInSuite known s fault) same has in
      (decided known runnable.suite).not_both tt fault runnable.typed here

  -- where no call of the files failed that could fail, the suite is taken
  is_taken : (said : Refusal) → IsTurnedDown known old new file said → (old.steady ≡ true) ⊎ (Rose old.faults new.faults → ⊥) → ⊥
  is_taken refusal.Usage turned quiet = turned
  is_taken (refusal.Suite at which) turned quiet =
      let here = HasBytes-at old file (λ bytes. IsWithinLimit bytes × IsFaulty known bytes (refusal.Suite at which)) runnable.content runnable.bytes
      turned.1 runnable.told runnable.there in
      no_fault (refusal.Suite at which) here.1
  is_taken refusal.Read turned (inl steady) = HasNone-not old file runnable.content runnable.bytes (turned.1 steady) runnable.told runnable.there
  is_taken refusal.Read turned (inr calm) = calm turned.0
  is_taken refusal.Database turned quiet = turned
  is_taken refusal.Clash turned quiet = turned
  is_taken refusal.TooLarge turned quiet =
      let large = HasBytes-at old file IsPastLimit runnable.content runnable.bytes turned.1 runnable.told runnable.there in
      absurd (omega (arith, large, runnable.small))
  is_taken refusal.UnknownItem turned quiet = turned

-- the same file is there under the same name
pub suite_at : (known : List (List ℕ)) (files : Shown) (file other : List ℕ) (Holds Also : SuiteTree → Type 0) → file ≡ other →
    ((suite : SuiteTree) → Holds suite → Also suite) → HasSuite known files other Holds → HasSuite known files file Also
suite_at known files file other Holds Also same follows has = record {
  content = has.content;
  told = has.told;
  bytes = has.bytes;
  there = rw same has.there;
  small = has.small;
  suite = has.suite;
  reads = has.reads;
  typed = has.typed;
  has = follows has.suite has.has;
}

module _ {C : Type 0} (name : C → List ℕ) (step : C → List Choice → Answer → Type 0) (checks : List C) where
  module _ (one_suite : (bytes : List ℕ) (suite other : SuiteTree) → Reads bytes suite → Reads bytes other → suite ≡ other)
      (not_both : (bytes : List ℕ) (suite : SuiteTree) (fault : SuiteFault) → Reads bytes suite → HasFault bytes fault → ⊥) (decided : SuitesAreDecided) where
    -- what is to be done is done with the suite of the file
    pub on_suite : (call : Call) (file : List ℕ) (Does : SuiteTree → Type 0) (Holds : SuiteTree → Type 0) →
        OnSuite name step checks file Does call.before call.after call.finish → (has : HasSuite (map name checks) call.before.files file Holds) →
        (call.before.files.steady ≡ true) ⊎ (Rose call.before.files.faults call.after.files.faults → ⊥) → Does has.suite
    on_suite call file Does Holds (inl (suite, taken, does)) has quiet =
        let same = is_suite one_suite (map name checks) call.before.files call.after.files file suite has.suite has.content has.bytes taken has.told has.there has.reads in
        subst (λ (s : SuiteTree). Does s) same does
    on_suite call file Does Holds (inr (said, turned, tells, rests)) has quiet =
        absurd (is_taken one_suite not_both decided (map name checks) call.before.files call.after.files file Holds has said turned quiet)

  -- a run that came to its end without a fault and without a clash is done
  of_run : (call : Call) (seed : ℕ) (items : List ItemTree) (file : List ℕ) (seed' workers : ℕ) →
      turns.Finishes name step checks seed items (reported_of call.finish) (scene_of call.before) (scene_of call.after) → IsQuiet call → IsDone name step checks (Run file seed' workers) call
  of_run call seed items file seed' workers (inl whole) quiet = record {
    below = let below = below_passed (turns.all_passed call.finish.findings) in omega (arith, whole.ends, below);
    text = whole.text;
    due = (whole.is, whole.ends);
    written = whole.written;
  }
  of_run call seed items file seed' workers (inr (inl unstored)) quiet = absurd (quiet.disk unstored.cause)
  of_run call seed items file seed' workers (inr (inr (inl clashed))) quiet =
      absurd (let none : Some clashed.two ≡ None = sym clashed.shown ∙ quiet.no_clash in cc)
  of_run call seed items file seed' workers (inr (inr (inr unwritten))) quiet = absurd (quiet.sink unwritten.cause)

  -- a record that was told was shown whole
  of_record : (call : Call) (file wanted : List ℕ) (list : List Choice) (shown : List ℕ) (rec : Record) → shown ≡ wanted →
      Tells (Replayed shown rec) call.finish call.before.sink call.after.sink → IsQuiet call → IsDone name step checks (Replay file wanted list) call
  of_record call file wanted list shown rec is tells quiet = of_told tells.told
    where
      of_told : TellsAll (Replayed shown rec) tells.text call.finish call.before.sink call.after.sink ⊎ TellsPart tells.text call.finish call.before.sink call.after.sink →
          IsDone name step checks (Replay file wanted list) call
      of_told (inl all) = record {
        below = let below = below_failed (is_failure rec.ending) in omega (arith, all.status, below);
        text = tells.text;
        due = (rec, all.replayed, subst (λ (i : List ℕ). IsReplay i rec tells.text) is tells.is_text, all.status);
        written = all.written;
      }
      of_told (inr part) = absurd (quiet.sink part.cause)

  of_replay : (call : Call) (suite : SuiteTree) (file wanted : List ℕ) (list : List Choice) (item : ItemTree) → IsItem suite wanted item → (message : Message) →
      Says name step checks suite wanted list message → Tells message call.finish call.before.sink call.after.sink → IsQuiet call → IsDone name step checks (Replay file wanted list) call
  of_replay call suite file wanted list item has (Replayed shown rec) says tells quiet = of_record call file wanted list shown rec says.2 tells quiet
  of_replay call suite file wanted list item has (Listed entries) says tells quiet = absurd says
  of_replay call suite file wanted list item has (Marked shown rec explained) says tells quiet = absurd says
  of_replay call suite file wanted list item has (Refused refusal.UnknownItem) says tells quiet = absurd (says item has)
  of_replay call suite file wanted list item has (Refused refusal.Usage) says tells quiet = absurd says
  of_replay call suite file wanted list item has (Refused (refusal.Suite at which)) says tells quiet = absurd says
  of_replay call suite file wanted list item has (Refused refusal.Read) says tells quiet = absurd says
  of_replay call suite file wanted list item has (Refused refusal.Database) says tells quiet = absurd says
  of_replay call suite file wanted list item has (Refused refusal.Clash) says tells quiet = absurd says
  of_replay call suite file wanted list item has (Refused refusal.TooLarge) says tells quiet = absurd says

  -- marks that were told were shown whole
  of_marks : (call : Call) (file wanted : List ℕ) (list : List Choice) (Holds : SuiteTree → Type 0) (has : HasSuite (map name checks) call.before.files file Holds)
      (shown : List ℕ) (rec : Record) (explained : Option Explained) → Explains name step checks has.suite wanted list (Marked shown rec explained) →
      Tells (Marked shown rec explained) call.finish call.before.sink call.after.sink → IsQuiet call → IsDone name step checks (Explain file wanted list) call
  of_marks call file wanted list Holds has shown rec explained says tells quiet = of_told tells.told
    where
      text_is : IsExplaining wanted rec explained tells.text
      text_is = subst (λ (i : List ℕ). IsExplaining i rec explained tells.text) says.2 tells.is_text

      of_told : TellsAll (Marked shown rec explained) tells.text call.finish call.before.sink call.after.sink
          ⊎ TellsPart tells.text call.finish call.before.sink call.after.sink → IsDone name step checks (Explain file wanted list) call
      of_told (inl all) = record {
        below = let below = below_failed (is_failure rec.ending) in omega (arith, all.status, below);
        text = tells.text;
        due = record {
          content = has.content;
          told = has.told;
          bytes = has.bytes;
          there = has.there;
          small = has.small;
          suite = has.suite;
          reads = has.reads;
          typed = has.typed;
          has = (
            says.0,
            says.1,
            item_follows name step checks says.0 (λ s. IsExplained s list rec explained) _ says.3
                (λ s is. (rec, explained, is, text_is, all.status)),
          );
        };
        written = all.written;
      }
      of_told (inr part) = absurd (quiet.sink part.cause)

  of_explanation : (call : Call) (file wanted : List ℕ) (list : List Choice)
      (has : HasSuite (map name checks) call.before.files file (λ suite. (item : ItemTree) × IsItem suite wanted item)) (message : Message) →
      Explains name step checks has.suite wanted list message → Tells message call.finish call.before.sink call.after.sink → IsQuiet call →
      IsDone name step checks (Explain file wanted list) call
  of_explanation call file wanted list has (Marked shown rec explained) says tells quiet =
      of_marks call file wanted list _ has shown rec explained says tells quiet
  of_explanation call file wanted list has (Replayed shown rec) says tells quiet = absurd says
  of_explanation call file wanted list has (Listed entries) says tells quiet = absurd says
  of_explanation call file wanted list has (Refused refusal.UnknownItem) says tells quiet = absurd (says has.has.0 has.has.1)
  of_explanation call file wanted list has (Refused refusal.Usage) says tells quiet = absurd says
  of_explanation call file wanted list has (Refused (refusal.Suite at which)) says tells quiet = absurd says
  of_explanation call file wanted list has (Refused refusal.Read) says tells quiet = absurd says
  of_explanation call file wanted list has (Refused refusal.Database) says tells quiet = absurd says
  of_explanation call file wanted list has (Refused refusal.Clash) says tells quiet = absurd says
  of_explanation call file wanted list has (Refused refusal.TooLarge) says tells quiet = absurd says

  -- entries that were told were listed whole
  of_entries : (call : Call) (entries : List Entry) → Tells (Listed entries) call.finish call.before.sink call.after.sink → IsQuiet call → IsDone name step checks Stored call
  of_entries call entries tells quiet = of_told tells.told
    where
      of_told : TellsAll (Listed entries) tells.text call.finish call.before.sink call.after.sink ⊎ TellsPart tells.text call.finish call.before.sink call.after.sink →
          IsDone name step checks Stored call
      of_told (inl all) = record {
        below = omega (arith, all.status);
        text = tells.text;
        due = (entries, tells.is_text, all.status);
        written = all.written;
      }
      of_told (inr part) = absurd (quiet.sink part.cause)

  of_listing : (call : Call) (message : Message) → Lists call.before.disk call.after.disk message →
      Tells message call.finish call.before.sink call.after.sink → IsQuiet call → IsDone name step checks Stored call
  of_listing call (Listed entries) lists tells quiet = of_entries call entries tells quiet
  of_listing call (Replayed shown rec) lists tells quiet = absurd lists
  of_listing call (Marked shown rec explained) lists tells quiet = absurd lists
  of_listing call (Refused refusal.UnknownItem) lists tells quiet = absurd lists
  of_listing call (Refused refusal.Usage) lists tells quiet = absurd lists
  of_listing call (Refused (refusal.Suite at which)) lists tells quiet = absurd lists
  of_listing call (Refused refusal.Read) lists tells quiet = absurd lists
  of_listing call (Refused refusal.Database) lists tells quiet = absurd (quiet.disk lists.1)
  of_listing call (Refused refusal.Clash) lists tells quiet = absurd lists
  of_listing call (Refused refusal.TooLarge) lists tells quiet = absurd lists

  of_made : (call : Call) (seed count seed' count' : ℕ) → Sums name step checks seed count call.finish call.before.sink call.after.sink → IsQuiet call →
      IsDone name step checks (Make seed' count') call
  of_made call seed count seed' count' sums quiet = of_told sums.told
    where
      of_told : ((call.finish.status ≡ turns.status_of call.finish.findings) × Appends call.before.sink.bytes (summary call.finish.findings) call.after.sink.bytes
          × (call.after.sink.faults ≡ call.before.sink.faults))
          ⊎ ((call.finish.status ≡ 5) × AppendsPart call.before.sink.bytes (summary call.finish.findings) call.after.sink.bytes
          × Rose call.before.sink.faults call.after.sink.faults) → IsDone name step checks (Make seed' count') call
      of_told (inl (status, written, same)) = record {
        below = let below = below_passed (turns.all_passed call.finish.findings) in omega (arith, status, below);
        text = summary call.finish.findings;
        due = (refl, status);
        written = written;
      }
      of_told (inr (status, written, cause)) = absurd (quiet.sink cause)

  module _ (one_suite : (bytes : List ℕ) (suite other : SuiteTree) → Reads bytes suite → Reads bytes other → suite ≡ other)
      (not_both : (bytes : List ℕ) (suite : SuiteTree) (fault : SuiteFault) → Reads bytes suite → HasFault bytes fault → ⊥) (decided : SuitesAreDecided) where
    done_one : (call : Call) (one asked : Asked) → Alike one asked → Ends name step checks one call.before call.after call.finish →
        IsRunnable (map name checks) call.before.files asked → IsQuiet call → IsDone name step checks asked call
    done_one call (Run file seed workers) (Run file' seed' workers') alike ends runnable quiet =
        let has = suite_at (map name checks) call.before.files file file' _ (λ suite. Unit {0}) alike.0 (λ suite holds. holds) runnable in
        let does = on_suite one_suite not_both decided call file _ _ ends has quiet.files in
        of_run call seed has.suite.items file' seed' workers' does.0 quiet
    done_one call (Replay file wanted list) (Replay file' wanted' list') alike ends runnable quiet =
        let has = suite_at (map name checks) call.before.files file file' _ (λ suite. (item : ItemTree) × IsItem suite wanted item) alike.0
        (λ suite holds. (holds.0, (holds.1.0, holds.1.1 ∙ sym alike.1))) runnable in
        let does = on_suite one_suite not_both decided call file _ _ ends has quiet.files in
        let replayed = of_replay call has.suite file' wanted list has.has.0 has.has.1 does.0 does.1 does.2 quiet in
        let here : IsDone name step checks (Replay file' wanted list') call =
        record { below = replayed.below; text = replayed.text; due = replayed.due; written = replayed.written } in
        subst (λ (w : List ℕ). IsDone name step checks (Replay file' w list') call) alike.1 here
    done_one call Stored Stored alike (message, lists, tells) runnable quiet = of_listing call message lists tells quiet
    done_one call (Make seed count) (Make seed' count') alike ends runnable quiet = of_made call seed count seed' count' ends quiet
    done_one call (Explain file wanted list) (Explain file' wanted' list') alike ends runnable quiet =
        let files = alike.0 in
        let items = alike.1 in
        let lists = alike.2 in
        let same : Explain file wanted list ≡ Explain file' wanted' list' = cc in
        let here : Ends name step checks (Explain file' wanted' list') call.before call.after call.finish =
        subst (λ (a : Asked). Ends name step checks a call.before call.after call.finish) same ends in
        let does = on_suite one_suite not_both decided call file' _ _ here runnable quiet.files in
        of_explanation call file' wanted' list' runnable does.0 does.1 does.2 quiet
    done_one call one asked alike ends runnable quiet = absurd alike

    pub done : (call : Call) (asked : Asked) → Answers name step checks call → Asks call.words asked →
        IsRunnable (map name checks) call.before.files asked → IsQuiet call → IsDone name step checks asked call
    done call asked (inl (nothing, tells)) asks runnable quiet = absurd (nothing asked asks)
    done call asked (inr (one, words, ends)) asks runnable quiet = done_one call one asked (asks_alike call.words one asked words asks) ends runnable quiet
