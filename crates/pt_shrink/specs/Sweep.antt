-- What a sweep tells.
use Rattle.std.specs.Prelude.{◌<◌, ◌≤◌, ℕ, List, length}
use Rattle.std.specs.List.{Contains}
use Rattle.pt_choice.specs.declared.choice.Choice.{Choice}
use Rattle.pt_case.specs.declared.record.Record.{Record}
use Rattle.pt_found.specs.Trail.{lists_of}
use Rattle.pt_shrink.specs.declared.log.Log.{Log}
use Rattle.pt_shrink.specs.declared.sweep.Swept.{Swept}
use Rattle.pt_shrink.specs.declared.sweep.Swept.TheVariants.{Improved, Done, Spent}

-- the best record then
abbrev pub best_swept : Swept → Record → Record
best_swept (Improved rec) best = rec
best_swept Done best = best
best_swept Spent best = best

-- each of these lists was tried
abbrev pub AllTried : (List Choice → Type 0) → Log → Type 0
AllTried Wanted log = (list : List Choice) → Wanted list → Contains (lists_of log.trail) list

-- one of these lists was not tried, and there is no room for it
abbrev pub IsLeft : ℕ → (List Choice → Type 0) → Log → Type 0
IsLeft budget Wanted log = (budget ≤ length log.trail) × ((list : List Choice) × Wanted list × (¬ Contains (lists_of log.trail) list))

-- the best record was bettered, or each of these lists was tried, or one is left
abbrev pub Sweeps : ℕ → (List Choice → Type 0) → Swept → Log → Log → Type 0
Sweeps budget Wanted (Improved rec) old new = length old.trail < length new.trail
Sweeps budget Wanted Done old new = AllTried Wanted new
Sweeps budget Wanted Spent old new = IsLeft budget Wanted new
