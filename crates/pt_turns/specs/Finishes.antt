-- What a run over some items comes to.
use Rattle.std.specs.Prelude.{◌≡◌, ◌⊎◌, ℕ, Bool, true, false, List, [], Some, None, Option, if◌then◌else◌}
use Rattle.std.specs.List.{list_all}
use Rattle.pt_choice.specs.declared.choice.Choice.{Choice}
use Rattle.pt_choice.specs.Faults.{Rose}
use Rattle.pt_case.specs.Step.{Answer}
use Rattle.pt_ast.specs.Trees.{ItemTree}
use Rattle.pt_db.specs.Attaching.{Attached}
use Rattle.pt_disk.specs.Moments.{Told, BothTell}
use Rattle.pt_found.specs.declared.finding.Finding.{Finding}
use Rattle.pt_edits.specs.Clash.{IsClashIn}
use Rattle.pt_edits.specs.Made.{Settled, SettledAnd}
use Rattle.pt_edits.specs.Pairs.{PairEdit}
use Rattle.pt_edits.specs.declared.stop.TwoValues.{TwoValues}
use Rattle.pt_io.specs.Sink.{Appends}
use Rattle.pt_report.specs.Refusals.{refusal_text}
use Rattle.pt_report.specs.Report.{IsReport, tail}
use Rattle.pt_report.specs.Sorts.{has_passed}
use Rattle.pt_report.specs.declared.refusal.Refusal.TheVariants.{Database, Clash}
use Rattle.pt_turns.specs.declared.reporting.Reported.{Reported}
use Rattle.pt_turns.specs.Blocks.{AreWritten, AreWrittenAnd, AreWrittenAndPart, IsLastCut}
use Rattle.pt_turns.specs.Ended.{AreOfNext}
use Rattle.pt_turns.specs.Scene.{Scene}
use Rattle.pt_turns.specs.Turns.{AreTurns, FirstTurns}

-- each of the findings is that its item passed
abbrev pub all_passed : List Finding → Bool
all_passed findings = list_all (λ finding. has_passed finding.verdict) findings

-- the status of a run with these findings: 0 where all passed, and else 1
abbrev pub status_of : List Finding → ℕ
status_of findings = if all_passed findings then 0 else 1

module _ {C : Type 0} (name : C → List ℕ) (step : C → List Choice → Answer → Type 0) (checks : List C) (seed : ℕ) (items : List ItemTree) where
  -- The folder was settled, the first items had their turns, as many as there are findings, and all their edits were made. Of the next item's
  -- edits all or some first ones were made.
  pub record PartlyDone (findings : List Finding) (old new : Option Told) : Type 0 where
    pub edits : List PairEdit
    pub turns : FirstTurns name step checks seed old items findings edits
    pub more : List PairEdit
    pub of_next : AreOfNext name step checks seed items old findings edits more
    pub kept : SettledAnd edits more old new

  -- the folder could not be settled, and no item had its turn; or the disk failed in the next item's turn
  abbrev pub IsHalted : List Finding → Option Told → Option Told → Type 0
  IsHalted findings old new =
      ((findings ≡ []) × BothTell (Attached false) old new) ⊎ PartlyDone findings old new

  -- the same, and two values clash in the next item's edits
  pub record IsClashing (findings : List Finding) (two : TwoValues) (old new : Option Told) : Type 0 where
    pub partly : PartlyDone findings old new
    pub clash : IsClashIn partly.edits partly.more old two

  -- all items had their turns, and the whole report of their findings is written
  pub record IsWhole (reported : Reported) (old new : Scene) : Type 0 where
    pub edits : List PairEdit
    pub turns : AreTurns name step checks seed old.disk.told items reported.findings edits
    pub kept : BothTell (Settled edits true) old.disk.told new.disk.told
    pub text : List ℕ
    pub is : IsReport reported.findings text
    pub written : Appends old.sink.bytes text new.sink.bytes
    pub sink_quiet : new.sink.faults ≡ old.sink.faults
    pub disk_quiet : new.disk.faults ≡ old.disk.faults
    pub ends : reported.status ≡ status_of reported.findings
    pub no_clash : reported.clash ≡ None

  -- the disk failed, and its line is written after the blocks so far
  pub record IsUnstored (reported : Reported) (old new : Scene) : Type 0 where
    pub halted : IsHalted reported.findings old.disk.told new.disk.told
    pub cause : Rose old.disk.faults new.disk.faults
    pub written : AreWrittenAnd reported.findings (refusal_text Database) old.sink.bytes new.sink.bytes
    pub sink_quiet : new.sink.faults ≡ old.sink.faults
    pub ends : reported.status ≡ 6
    pub no_clash : reported.clash ≡ None

  -- two values clash, and that line is written after the blocks so far
  pub record IsClashed (reported : Reported) (old new : Scene) : Type 0 where
    pub two : TwoValues
    pub shown : reported.clash ≡ Some two
    pub clashing : IsClashing reported.findings two old.disk.told new.disk.told
    pub written : AreWrittenAnd reported.findings (refusal_text Clash) old.sink.bytes new.sink.bytes
    pub sink_quiet : new.sink.faults ≡ old.sink.faults
    pub disk_quiet : new.disk.faults ≡ old.disk.faults
    pub ends : reported.status ≡ 8

  -- Where the output failed: in the block of the last finding, and no later item had its turn; in the tail, after all items had theirs;
  -- or in the line on the disk, or on a clash. The disk failed in the third case alone.
  abbrev pub IsCut : List Finding → Scene → Scene → Type 0
  IsCut findings old new =
      ((edits : List PairEdit) × FirstTurns name step checks seed old.disk.told items findings edits
      × BothTell (Settled edits true) old.disk.told new.disk.told × IsLastCut findings old.sink.bytes new.sink.bytes
      × (new.disk.faults ≡ old.disk.faults))
      ⊎ (((edits : List PairEdit) × AreTurns name step checks seed old.disk.told items findings edits
      × BothTell (Settled edits true) old.disk.told new.disk.told × AreWrittenAndPart findings (tail findings) old.sink.bytes new.sink.bytes
      × (new.disk.faults ≡ old.disk.faults))
      ⊎ ((IsHalted findings old.disk.told new.disk.told × Rose old.disk.faults new.disk.faults
      × AreWrittenAndPart findings (refusal_text Database) old.sink.bytes new.sink.bytes)
      ⊎ ((two : TwoValues) × IsClashing findings two old.disk.told new.disk.told
      × AreWrittenAndPart findings (refusal_text Clash) old.sink.bytes new.sink.bytes × (new.disk.faults ≡ old.disk.faults))))

  -- the output failed
  pub record IsUnwritten (reported : Reported) (old new : Scene) : Type 0 where
    pub cut : IsCut reported.findings old new
    pub cause : Rose old.sink.faults new.sink.faults
    pub ends : reported.status ≡ 5
    pub no_clash : reported.clash ≡ None

  -- a run over the items came to this
  abbrev pub Finishes : Reported → Scene → Scene → Type 0
  Finishes reported old new =
      IsWhole reported old new ⊎ (IsUnstored reported old new ⊎ (IsClashed reported old new ⊎ IsUnwritten reported old new))

  -- there was no memory: the blocks of the findings of some first items are written, whole, and nothing more
  pub record StoppedShort (old new : Scene) : Type 0 where
    pub findings : List Finding
    pub partly : PartlyDone findings old.disk.told new.disk.told
    pub written : AreWritten findings old.sink.bytes new.sink.bytes
    pub sink_quiet : new.sink.faults ≡ old.sink.faults
    pub disk_quiet : new.disk.faults ≡ old.disk.faults
