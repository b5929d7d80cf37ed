-- How far the stored lists and the runs have come.
use Rattle.std.specs.Prelude.{◌≡◌, ◌≤◌, ℕ, Option, Some, None, List, ◌++◌, length, take}
use Rattle.pt_case.specs.declared.record.Record.{Record}
use Rattle.pt_engine.specs.declared.outcome.Decision.{Decision}
use Rattle.pt_engine.specs.declared.tally.Tally.{Tally}
use Rattle.pt_engine.specs.Outcome.{IsLeastFailure, AreOpen, Decides, passes, failures}

-- the least failing record, if one of them fails
abbrev pub IsLeastOf : List Record → Option Record → Type 0
IsLeastOf records None = failures records ≡ 0
IsLeastOf records (Some least) = IsLeastFailure records least

-- the tally counts these runs
pub record IsCount (records : List Record) (tally : Tally) : Type 0 where
  pub all : tally.seen ≡ length records
  pub passing : tally.valid ≡ passes records

-- Further runs were counted after these, up to the one that decides, or all of them.
abbrev pub Counts : ℕ → List Record → List Record → Option Decision → Tally → Type 0
Counts runs before block None tally = AreOpen runs (before ++ block) × IsCount (before ++ block) tally
Counts runs before block (Some decision) tally =
    (n : ℕ) × (n ≤ length block) × Decides runs (before ++ take n block) decision × IsCount (before ++ take n block) tally
