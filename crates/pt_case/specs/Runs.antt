-- The records of several runs.
use Rattle.std.specs.Prelude.{◌≡◌, ◌+◌, ℕ, List, [], ◌∷◌}
use Rattle.pt_choice.specs.declared.choice.Choice.{Choice}
use Rattle.pt_rng.specs.Supplied.{supply_of_run}
use Rattle.pt_case.specs.Step.{Answer}
use Rattle.pt_case.specs.Run.{IsRun}
use Rattle.pt_case.specs.declared.record.Record.{Record}

-- these are the records of the runs from the one number up to but without the other, in order
abbrev pub AreRuns : (List Choice → Answer → Type 0) → ℕ → ℕ → ℕ → List Record → Type 0
AreRuns step seed from to [] = from ≡ to
AreRuns step seed from to (rec ∷ records) = IsRun step (supply_of_run seed from) rec × AreRuns step seed (from + 1) to records
