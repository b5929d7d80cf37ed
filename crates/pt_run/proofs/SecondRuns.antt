-- A second run of one file begins with what the first one showed.
use Rattle.std.proofs.Common.{◌≡◌, ℕ, ◌<◌, List, [], Some, ◌∙◌, subst}
use Rattle.std.specs.Prelude.{IsSome, map}
use Rattle.pt_choice.specs.declared.choice.Choice.{Choice}
use Rattle.pt_ast.specs.Trees.{ItemTree, SuiteTree}
use Rattle.pt_parse.specs.Suites.{Reads}
use Rattle.pt_case.specs.Step.{Answer}
use Rattle.pt_disk.specs.Folder.{reads}
use Rattle.pt_disk.specs.Moments.{Told, now}
use Rattle.pt_edits.specs.Pairs.{PairEdit, StoresAfter}
use Rattle.pt_found.specs.declared.finding.Finding.{Finding}
use Rattle.pt_io.specs.Files.{IsSame}
use Rattle.pt_io.specs.Reading.{IsWithinLimit}
use Rattle.pt_stored.specs.Stored.{SameStored}
use Rattle.pt_turns.specs.Again.{AreFoundAgain}
use Rattle.pt_turns.specs.Turns.{AreTurns}
use Rattle.pt_run.specs.Call.{Call, Answers}
use Rattle.pt_run.specs.Suite.{IsTaken}
use Rattle.pt_commands.specs.Words.{AsksRun}
use Rattle.pt_run.proofs.Completeness.{is_suite}
use Rattle.pt_run.proofs.Messages.{HasBytes-some}
use Rattle.pt_run.proofs.Replaying.{some_of}
use Rattle.pt_run.proofs.Workers.{has_run}

module _ {C : Type 0} (name : C → List ℕ) (step : C → List Choice → Answer → Type 0) (checks : List C) where
  pub found_again : ((bytes : List ℕ) (suite other : SuiteTree) → Reads bytes suite → Reads bytes other → suite ≡ other) →
      ((seed anew : ℕ) (told telling : Told) (items : List ItemTree) (one other : List Finding) (edits more : List PairEdit) →
      AreTurns name step checks seed (Some told) items one edits → StoresAfter edits (reads (now told)) (reads (now telling)) →
      AreTurns name step checks anew (Some telling) items other more → AreFoundAgain name step checks seed anew [] items one other) →
      (one other : Call) (file : List ℕ) (seed anew workers more : ℕ) (told end telling : Told) → Answers name step checks one →
      AsksRun one.words file seed workers → one.finish.status < 2 → Answers name step checks other → AsksRun other.words file anew more →
      other.finish.status < 2 → IsSome one.before.files.named → IsSame one.before.files other.before.files → one.before.disk.told ≡ Some told →
      one.after.disk.told ≡ Some end → other.before.disk.told ≡ Some telling → SameStored (reads (now end)) (reads (now telling)) →
      (suite : SuiteTree) × IsTaken (map name checks) one.before.files one.after.files file suite
      × AreFoundAgain name step checks seed anew [] suite.items one.finish.findings other.finish.findings
  found_again one_suite turns_again one other file seed anew workers more told end telling answers asks below answered asked under named same here ends there stored =
      let first = has_run name step checks one file seed workers told answers asks below here in
      let second = has_run name step checks other file anew more telling answered asked under there in
      let content = some_of one.before.files.named named in
      let bytes = HasBytes-some one.before.files file (λ bytes. IsWithinLimit bytes × Reads bytes first.suite) content.0 first.taken.read content.1 in
      let suites : second.suite ≡ first.suite =
      is_suite one_suite (map name checks) other.before.files other.after.files file second.suite first.suite content.0 bytes.0 second.taken (same.named ∙ content.1) bytes.1 bytes.2.1 in
      let left = first.left end ends in (
        first.suite,
        first.taken,
        turns_again seed anew told telling first.suite.items one.finish.findings other.finish.findings first.edits second.edits first.turns
            (λ d b. ((λ has. (left.stored d b).0 ((stored d b).0 has)), (λ has. (stored d b).1 ((left.stored d b).1 has))))
            (subst (λ (s : SuiteTree). AreTurns name step checks anew (Some telling) s.items other.finish.findings second.edits) suites second.turns),
      )
