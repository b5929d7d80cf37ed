-- How far a reduction has come.
use Rattle.std.specs.Prelude.{◌≡◌, ◌<◌, ◌≤◌, ℕ, ◌+◌, ◌*◌, true, Option, List, [], length}
use Rattle.std.specs.List.{Contains}
use Rattle.pt_choice.specs.declared.choice.Choice.{Choice}
use Rattle.pt_case.specs.Ending.{is_failure}
use Rattle.pt_case.specs.Step.{Answer}
use Rattle.pt_case.specs.declared.record.Record.{Record}
use Rattle.pt_found.specs.Trail.{AreNew, Leads, lists_of, accepted_in}
use Rattle.pt_found.specs.Leap.{LeapsFrom, IsHeeded}
use Rattle.pt_shrink.specs.declared.log.Log.{Log}

-- From the first record this best was reached, and this list may come next, if any does.
pub record IsReached (step : List Choice → Answer → Type 0) (budget : ℕ) (first best : Record) (log : Log) (next : Option (List Choice)) : Type 0 where
  pub once : AreNew [] (lists_of log.trail)
  pub short : length log.trail ≤ budget
  pub strangers : ℕ
  pub leads : Leads step first log.trail strangers best
  pub few : strangers + log.allowed ≤ 20 * accepted_in log.trail
  pub leaps : LeapsFrom step budget [] first log.trail next

-- any list may come next, or none
abbrev pub IsAt : (List Choice → Answer → Type 0) → ℕ → Record → Record → Log → Type 0
IsAt step budget first best log = (next : Option (List Choice)) → IsReached step budget first best log next

-- what the step from the one record to the other asks for may come next
abbrev pub Owes : (List Choice → Answer → Type 0) → ℕ → Record → Record → Record → Log → Type 0
Owes step budget first old best log =
    (next : Option (List Choice)) → IsHeeded budget (lists_of log.trail) old best next → IsReached step budget first best log next

-- Lists were added to the trail within the budget, or none was, and those that were tried stay tried.
pub record Grows (budget : ℕ) (old new : Log) : Type 0 where
  pub longer : length old.trail ≤ length new.trail
  pub within : length old.trail < length new.trail → length new.trail ≤ budget
  pub keeps : (list : List Choice) → Contains (lists_of old.trail) list → Contains (lists_of new.trail) list

-- The reduction went on from the one best to the other.
pub record GoesOn (step : List Choice → Answer → Type 0) (budget : ℕ) (best : Record) (old : Log) (rec : Record) (new : Log) : Type 0 where
  pub fails : is_failure best.ending ≡ true → is_failure rec.ending ≡ true
  pub grows : Grows budget old new
  pub reached : (first : Record) → IsAt step budget first best old → IsAt step budget first rec new
