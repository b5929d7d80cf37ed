-- What is written after the blocks.
use Rattle.std.specs.Prelude.{◌≡◌, ◌⊎◌, ℕ, List, Option, None}
use Rattle.pt_choice.specs.Faults.{Rose}
use Rattle.pt_edits.specs.declared.stop.TwoValues.{TwoValues}
use Rattle.pt_found.specs.declared.finding.Finding.{Finding}
use Rattle.pt_io.specs.Sink.{Written, Appends, AppendsPart}
use Rattle.pt_turns.specs.declared.reporting.Reported.{Reported}

-- the text is written, and the run ends with this status and these two values
pub record IsAddedWhole (text : List ℕ) (status : ℕ) (clash : Option TwoValues) (reported : Reported) (old new : Written) : Type 0 where
  pub written : Appends old.bytes text new.bytes
  pub quiet : new.faults ≡ old.faults
  pub ends : reported.status ≡ status
  pub shown : reported.clash ≡ clash

-- the output failed within the text
pub record IsAddedPart (text : List ℕ) (reported : Reported) (old new : Written) : Type 0 where
  pub written : AppendsPart old.bytes text new.bytes
  pub cause : Rose old.faults new.faults
  pub ends : reported.status ≡ 5
  pub no_clash : reported.clash ≡ None

-- this text was added, and these are the findings that the run ends with
abbrev pub IsAdded : List Finding → List ℕ → ℕ → Option TwoValues → Reported → Written → Written → Type 0
IsAdded findings text status clash reported old new = (reported.findings ≡ findings)
    × (IsAddedWhole text status clash reported old new ⊎ IsAddedPart text reported old new)
