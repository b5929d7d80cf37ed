-- What a crash leaves of the database in the course of a run.
use Rattle.std.specs.Prelude.{◌≡◌, ℕ, List, ◌++◌, Some}
use Rattle.pt_choice.specs.declared.choice.Choice.{Choice}
use Rattle.pt_case.specs.Step.{Answer}
use Rattle.pt_ast.specs.Trees.{ItemTree}
use Rattle.pt_disk.specs.Files.{Files}
use Rattle.pt_disk.specs.Folder.{reads}
use Rattle.pt_disk.specs.Moments.{Told, now}
use Rattle.pt_found.specs.declared.finding.Finding.{Finding}
use Rattle.pt_edits.specs.Pairs.{PairEdit, IsAfter, IsAfterSome}
use Rattle.pt_turns.specs.Ended.{AreOfNext}
use Rattle.pt_turns.specs.Turns.{AreTurns, FirstTurns}

-- These are the files from the start of the run, after some first ones of its edits: those of the turns of the first items, whose findings
-- these are, and then those of the next one.
pub record IsMidway {C : Type 0} (name : C → List ℕ) (step : C → List Choice → Answer → Type 0) (checks : List C) (seed : ℕ) (items : List ItemTree)
    (findings : List Finding) (start : Told) (image : Files) : Type 0 where
  pub edits : List PairEdit
  pub turns : FirstTurns name step checks seed (Some start) items findings edits
  pub more : List PairEdit
  pub of_next : AreOfNext name step checks seed items (Some start) findings edits more
  pub edited : IsAfterSome (edits ++ more) (reads (now start)) image

-- At an exit these are the files from the start, after all edits of the turns of the first items, whose findings these are, and then after some
-- first ones of the next one's.
pub record IsAtExit {C : Type 0} (name : C → List ℕ) (step : C → List Choice → Answer → Type 0) (checks : List C) (seed : ℕ) (items : List ItemTree)
    (findings : List Finding) (start : Told) (image : Files) : Type 0 where
  pub edits : List PairEdit
  pub turns : FirstTurns name step checks seed (Some start) items findings edits
  pub more : List PairEdit
  pub of_next : AreOfNext name step checks seed items (Some start) findings edits more
  pub made : List PairEdit
  pub left : List PairEdit
  pub parts : more ≡ made ++ left
  pub edited : IsAfter (edits ++ made) (reads (now start)) image

-- at the end these are the files from the start, after all edits of the turns of all items
abbrev pub IsAtEnd : {C : Type 0} → (C → List ℕ) → (C → List Choice → Answer → Type 0) → List C → ℕ → List ItemTree → List Finding → Told → Files → Type 0
IsAtEnd name step checks seed items findings start image =
    (edits : List PairEdit) × AreTurns name step checks seed (Some start) items findings edits × IsAfter edits (reads (now start)) image
