-- Two runs of one file differ in their reductions alone.
use Rattle.std.proofs.Common.{◌≡◌, ◌⊎◌, inl, inr, ℕ, ◌<◌, true, List, [], Option, Some, refl, ◌∙◌, subst, arith}
use Rattle.std.specs.Prelude.{IsSome, map}
use Rattle.pt_choice.specs.declared.choice.Choice.{Choice}
use Rattle.pt_ast.specs.Trees.{ItemTree, SuiteTree}
use Rattle.pt_parse.specs.Suites.{Reads}
use Rattle.pt_case.specs.Step.{Answer}
use Rattle.pt_disk.specs.Folder.{reads}
use Rattle.pt_disk.specs.Moments.{Told, now, BothTell}
use Rattle.pt_edits.specs.Made.{Settled}
use Rattle.pt_edits.specs.Pairs.{PairEdit, IsAfter}
use Rattle.pt_found.specs.declared.finding.Finding.{Finding}
use Rattle.pt_io.specs.Files.{IsSame}
use Rattle.pt_io.specs.Reading.{IsWithinLimit}
use Rattle.pt_report.specs.declared.refusal.Refusal.{Refusal}
use Rattle.pt_report.specs.declared.refusal.Refusal.TheVariants as refusal
use Rattle.pt_stored.specs.Stored.{SameStored}
use Rattle.pt_turns.specs.Agree.{AgreeWhereOwn}
use Rattle.pt_turns.specs.Turns.{AreTurns}
use Rattle.pt_commands.specs.declared.message.Message.TheVariants.{Refused}
use Rattle.pt_run.specs.Call.{Call, Answers}
use Rattle.pt_run.specs.Ends.{Ends}
use Rattle.pt_commands.specs.Message.{TellsAll, TellsPart, refusal_status}
use Rattle.pt_run.specs.Suite.{IsTaken}
use Rattle.pt_commands.specs.Words.{Asked, Run, Replay, Stored, Make, Explain, AsksRun}
use Rattle.pt_commands.proofs.Asking.{Alike, asks_alike}
use Rattle.pt_run.proofs.Completeness.{is_suite}
use Rattle.pt_run.proofs.Messages.{HasBytes-some}
use Rattle.pt_run.proofs.Replaying.{some_of}

-- no refusal has a status below 2
pub not_below : (said : Refusal) → refusal_status said < 2 → ⊥
not_below refusal.Usage below = absurd (omega (arith, below))
not_below (refusal.Suite at which) below = absurd (omega (arith, below))
not_below refusal.Read below = absurd (omega (arith, below))
not_below refusal.Database below = absurd (omega (arith, below))
not_below refusal.Clash below = absurd (omega (arith, below))
not_below refusal.TooLarge below = absurd (omega (arith, below))
not_below refusal.UnknownItem below = absurd (omega (arith, below))

module _ {C : Type 0} (name : C → List ℕ) (step : C → List Choice → Answer → Type 0) (checks : List C) where
  -- the suite of a run that came to its end, the turns of its items, and what it left
  pub record HasRun (call : Call) (file : List ℕ) (seed : ℕ) (told : Told) : Type 0 where
    pub suite : SuiteTree
    pub taken : IsTaken (map name checks) call.before.files call.after.files file suite
    pub edits : List PairEdit
    pub turns : AreTurns name step checks seed (Some told) suite.items call.finish.findings edits
    pub left : (end : Told) → call.after.disk.told ≡ Some end → IsAfter edits (reads (now told)) (reads (now end))

  run_one : (call : Call) (one : Asked) (file : List ℕ) (seed workers : ℕ) (told : Told) → Alike one (Run file seed workers) →
      Ends name step checks one call.before call.after call.finish → call.finish.status < 2 → call.before.disk.told ≡ Some told → HasRun call file seed told
  run_one call (Run other seed' workers') file seed workers told alike (inl (suite, taken, ((inl whole), none))) below telling = record {
    suite = suite;
    taken = subst (λ (f : List ℕ). IsTaken (map name checks) call.before.files call.after.files f suite) alike.0 taken;
    edits = whole.edits;
    turns = subst (λ (s : ℕ). AreTurns name step checks s (Some told) suite.items call.finish.findings whole.edits) alike.1
        (subst (λ (t : Option Told). AreTurns name step checks seed' t suite.items call.finish.findings whole.edits) telling whole.turns);
    left = λ end ended.
        let settled : Settled whole.edits true told end = subst (λ (t : Option Told). BothTell (Settled whole.edits true) (Some told) t) ended
        (subst (λ (t : Option Told). BothTell (Settled whole.edits true) t call.after.disk.told) telling whole.kept) in
        settled.edited refl;
  }
  run_one call (Run other seed' workers') file seed workers told alike (inl (suite, taken, ((inr (inl unstored)), none))) below telling =
      absurd (omega (arith, unstored.ends, below))
  run_one call (Run other seed' workers') file seed workers told alike (inl (suite, taken, ((inr (inr (inl clashed))), none))) below telling =
      absurd (omega (arith, clashed.ends, below))
  run_one call (Run other seed' workers') file seed workers told alike (inl (suite, taken, ((inr (inr (inr unwritten))), none))) below telling =
      absurd (omega (arith, unwritten.ends, below))
  run_one call (Run other seed' workers') file seed workers told alike (inr (said, turned, tells, rests)) below telling = of_told tells.told
    where
      of_told : TellsAll (Refused said) tells.text call.finish call.before.sink call.after.sink
          ⊎ TellsPart tells.text call.finish call.before.sink call.after.sink → HasRun call file seed told
      of_told (inl all) = absurd (not_below said (subst (λ (n : ℕ). n < 2) all.status below))
      of_told (inr part) = absurd (omega (arith, part.status, below))
  run_one call (Replay other wanted list) file seed workers told alike ends below telling = absurd alike
  run_one call Stored file seed workers told alike ends below telling = absurd alike
  run_one call (Make seed' count) file seed workers told alike ends below telling = absurd alike
  run_one call (Explain other wanted list) file seed workers told alike ends below telling = absurd alike

  pub has_run : (call : Call) (file : List ℕ) (seed workers : ℕ) (told : Told) → Answers name step checks call → AsksRun call.words file seed workers →
      call.finish.status < 2 → call.before.disk.told ≡ Some told → HasRun call file seed told
  has_run call file seed workers told (inl (nothing, tells)) asks below telling = absurd (nothing (Run file seed workers) asks)
  has_run call file seed workers told (inr (one, words, ends)) asks below telling =
      run_one call one file seed workers told (asks_alike call.words one (Run file seed workers) words asks) ends below telling

  pub runs_agree : ((bytes : List ℕ) (suite other : SuiteTree) → Reads bytes suite → Reads bytes other → suite ≡ other) →
      ((seed : ℕ) (told telling : Told) (items : List ItemTree) (one other : List Finding) (edits more : List PairEdit) →
      SameStored (reads (now told)) (reads (now telling)) → AreTurns name step checks seed (Some told) items one edits →
      AreTurns name step checks seed (Some telling) items other more → AgreeWhereOwn name step checks [] items one other) →
      (one other : Call) (file : List ℕ) (seed workers more : ℕ) (told telling : Told) → Answers name step checks one → AsksRun one.words file seed workers →
      one.finish.status < 2 → Answers name step checks other → AsksRun other.words file seed more → other.finish.status < 2 →
      IsSome one.before.files.named → IsSame one.before.files other.before.files → one.before.disk.told ≡ Some told → other.before.disk.told ≡ Some telling →
      SameStored (reads (now told)) (reads (now telling)) →
      (suite : SuiteTree) × IsTaken (map name checks) one.before.files one.after.files file suite
      × AgreeWhereOwn name step checks [] suite.items one.finish.findings other.finish.findings
  runs_agree one_suite turns_agree one other file seed workers more told telling answers asks below answered asked under named same here there stored =
      let first = has_run one file seed workers told answers asks below here in
      let second = has_run other file seed more telling answered asked under there in
      let content = some_of one.before.files.named named in
      let bytes = HasBytes-some one.before.files file (λ bytes. IsWithinLimit bytes × Reads bytes first.suite) content.0 first.taken.read content.1 in
      let suites : second.suite ≡ first.suite =
      is_suite one_suite (map name checks) other.before.files other.after.files file second.suite first.suite content.0 bytes.0 second.taken (same.named ∙ content.1) bytes.1 bytes.2.1 in (
        first.suite,
        first.taken,
        turns_agree seed told telling first.suite.items one.finish.findings other.finish.findings first.edits second.edits stored first.turns
            (subst (λ (s : SuiteTree). AreTurns name step checks seed (Some telling) s.items other.finish.findings second.edits) suites second.turns),
      )
