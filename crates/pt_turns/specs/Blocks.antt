-- Blocks of findings on an output.
use Rattle.std.specs.Prelude.{◌≡◌, ℕ, Option, List, [], ◌∷◌, ◌++◌, take}
use Rattle.pt_found.specs.declared.finding.Finding.{Finding}
use Rattle.pt_io.specs.Sink.{Appends}
use Rattle.pt_report.specs.Report.{IsBlock, AreBlocks}

-- the blocks of these findings are written, whole and in order
abbrev pub AreWritten : List Finding → Option (List ℕ) → Option (List ℕ) → Type 0
AreWritten findings old new = (blocks : List ℕ) × AreBlocks findings blocks × Appends old blocks new

-- the blocks of these findings are written, and then this text
abbrev pub AreWrittenAnd : List Finding → List ℕ → Option (List ℕ) → Option (List ℕ) → Type 0
AreWrittenAnd findings text old new = (blocks : List ℕ) × AreBlocks findings blocks × Appends old (blocks ++ text) new

-- the blocks of these findings are written, and of this text a first part
abbrev pub AreWrittenAndPart : List Finding → List ℕ → Option (List ℕ) → Option (List ℕ) → Type 0
AreWrittenAndPart findings text old new = (n : ℕ) × AreWrittenAnd findings (take n text) old new

-- the blocks of these findings are written but for the last, and of that a first part
pub record IsLastCut (findings : List Finding) (old new : Option (List ℕ)) : Type 0 where
  pub before : List Finding
  pub last : Finding
  pub those : findings ≡ before ++ last ∷ []
  pub block : List ℕ
  pub its : IsBlock last block
  pub written : AreWrittenAndPart before block old new
