-- How a command ends that needs no suite.
use Rattle.std.specs.Prelude.{◌≡◌, ◌⊎◌, ℕ, true, false, List, None, IfSome}
use Rattle.pt_choice.specs.declared.choice.Choice.{Choice}
use Rattle.pt_choice.specs.Faults.{Rose}
use Rattle.pt_case.specs.Step.{Answer}
use Rattle.pt_db.specs.Attaching.{Attached}
use Rattle.pt_disk.specs.Folder.{reads}
use Rattle.pt_disk.specs.Moments.{BothTell, now}
use Rattle.pt_stored.specs.Entries.{AreEntries, AreInOrder}
use Rattle.pt_io.specs.Sink.{Written, Appends, AppendsPart}
use Rattle.pt_made.specs.Lines.{made_suite}
use Rattle.pt_report.specs.Report.{summary}
use Rattle.pt_report.specs.declared.refusal.Refusal.TheVariants.{Database}
use Rattle.pt_turns.specs.Finishes.{status_of}
use Rattle.pt_turns.specs.Scene.{DiskShown}
use Rattle.pt_turns.specs.Turns.{AreExamined}
use Rattle.pt_commands.specs.declared.finish.Finish.{Finish}
use Rattle.pt_commands.specs.declared.message.Message.{Message}
use Rattle.pt_commands.specs.declared.message.Message.TheVariants.{Refused, Listed}

-- The folder was settled, and its entries are listed; or the disk failed before that.
abbrev pub Lists : DiskShown → DiskShown → Message → Type 0
Lists old new (Listed entries) =
    AreInOrder entries × IfSome old.told (λ told. AreEntries None (reads (now told)) entries)
    × BothTell (Attached true) old.told new.told × (new.faults ≡ old.faults)
Lists old new (Refused Database) =
    (BothTell (Attached true) old.told new.told ⊎ BothTell (Attached false) old.told new.told) × Rose old.faults new.faults
Lists old new other = ⊥

-- The items of the suite that is made were examined, with nothing stored, and their summary was written, or a first part of it.
pub record Sums {C : Type 0} (name : C → List ℕ) (step : C → List Choice → Answer → Type 0) (checks : List C) (seed count : ℕ) (finish : Finish)
    (old new : Written) : Type 0 where
  pub examined : AreExamined name step checks seed (made_suite seed count).items finish.findings
  pub replayed : finish.replayed ≡ None
  pub clash : finish.clash ≡ None
  pub told : ((finish.status ≡ status_of finish.findings) × Appends old.bytes (summary finish.findings) new.bytes × (new.faults ≡ old.faults))
      ⊎ ((finish.status ≡ 5) × AppendsPart old.bytes (summary finish.findings) new.bytes × Rose old.faults new.faults)
