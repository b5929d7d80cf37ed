-- What a crash leaves of a run.
use Rattle.std.specs.Prelude.{◌≡◌, ◌⊎◌, ℕ, List, [], map}
use Rattle.pt_choice.specs.declared.choice.Choice.{Choice}
use Rattle.pt_ast.specs.Trees.{ItemTree, SuiteTree}
use Rattle.pt_case.specs.Step.{Answer}
use Rattle.pt_disk.specs.Files.{Files}
use Rattle.pt_disk.specs.Folder.{reads, IsImage}
use Rattle.pt_disk.specs.Moments.{Told, now}
use Rattle.pt_found.specs.declared.finding.Finding.{Finding}
use Rattle.pt_turns.specs.Crash.{IsMidway, IsAtExit, IsAtEnd}
use Rattle.pt_turns.specs.Differences.{NothingIsLost, NothingIsInvented, NothingElseChanges}
use Rattle.pt_turns.specs.Kept.{AreStillKept}
use Rattle.pt_run.specs.Outside.{Outside}
use Rattle.pt_run.specs.Suite.{IsTaken}

module _ {C : Type 0} (name : C → List ℕ) (step : C → List Choice → Answer → Type 0) (checks : List C) where
  -- of the items of the suite that was taken of this file this holds
  abbrev pub OfTaken : List ℕ → Outside → Outside → (List ItemTree → Type 0) → Type 0
  OfTaken file before after Holds = (suite : SuiteTree) × IsTaken (map name checks) before.files after.files file suite × Holds suite.items

  module _ (seed : ℕ) where
    -- These are the files from the start, after some first ones of the edits of the turns; nothing that was stored is lost, nothing is invented, and no
    -- other file is changed.
    pub record IsSafe (findings : List Finding) (start : Told) (image : Files) (items : List ItemTree) : Type 0 where
      pub midway : IsMidway name step checks seed items findings start image
      pub lost : NothingIsLost name step checks items (reads (now start)) image
      pub invented : NothingIsInvented name step checks items (reads (now start)) image
      pub others : NothingElseChanges items (reads (now start)) image

    -- They have the edits of all turns of the findings, and each failure that was shown.
    pub record IsLeft (findings : List Finding) (start : Told) (image : Files) (items : List ItemTree) : Type 0 where
      pub exit : IsAtExit name step checks seed items findings start image
      pub kept : AreStillKept image items findings
      pub safe : IsSafe findings start image items

    -- What a crash at some moment leaves of a run of this file on a disk that told this at the start: what it might have left then; or it is safe.
    abbrev pub IsLeftSince : List ℕ → Outside → Outside → List Finding → Told → Files → Type 0
    IsLeftSince file before after findings start image = IsImage (now start) image ⊎ OfTaken file before after (IsSafe findings start image)

    -- What a crash leaves at the exit: before the first turn what it might have left at the start; or what has the turns of the findings.
    abbrev pub IsLeftAtExit : List ℕ → Outside → Outside → List Finding → Told → Files → Type 0
    IsLeftAtExit file before after findings start image =
        ((findings ≡ []) × IsImage (now start) image) ⊎ OfTaken file before after (IsLeft findings start image)

    -- What a crash leaves at the end of a run that had all its turns: what has all their edits, and no others.
    abbrev pub IsLeftAtEnd : List ℕ → Outside → Outside → List Finding → Told → Files → Type 0
    IsLeftAtEnd file before after findings start image = OfTaken file before after (λ items.
        IsAtEnd name step checks seed items findings start image × IsLeft findings start image items)
