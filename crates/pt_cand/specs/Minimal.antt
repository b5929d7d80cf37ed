-- When no pass makes a failure any simpler.
use Rattle.std.specs.Prelude.{List}
use Rattle.pt_choice.specs.declared.choice.Choice.{Choice}
use Rattle.pt_case.specs.Step.{Answer}
use Rattle.pt_case.specs.Better.{IsBetter}
use Rattle.pt_case.specs.declared.record.Record.{Record}
use Rattle.pt_cand.specs.Candidates.{IsCandidate}

-- no candidate is better
abbrev pub IsMinimal : (List Choice → Answer → Type 0) → Record → Type 0
IsMinimal step best = (list : List Choice) → IsCandidate best list → ¬ IsBetter step list best
