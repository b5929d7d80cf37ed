-- What became of a list, and of several.
use Rattle.std.specs.Prelude.{◌≡◌, ◌<◌, ◌≤◌, ℕ, Bool, false, Option, Some, None, List, length}
use Rattle.std.specs.List.{Contains}
use Rattle.pt_choice.specs.declared.choice.Choice.{Choice}
use Rattle.pt_case.specs.declared.record.Record.{Record}
use Rattle.pt_found.specs.Trail.{lists_of}
use Rattle.pt_shrink.specs.declared.log.Log.{Log}
use Rattle.pt_shrink.specs.declared.attempt.Gain.{Gain}
use Rattle.pt_shrink.specs.declared.attempt.Outcome.{Outcome}
use Rattle.pt_shrink.specs.declared.attempt.Outcome.TheVariants.{Accepted, Vain, Full}

-- the best record then
abbrev pub best_after : Outcome → Record → Record
best_after (Accepted gain) best = gain.rec
best_after Vain best = best
best_after Full best = best

-- an accepted list lengthens the trail; a candidate that is not accepted is in the trail, or there is no room for it
abbrev pub Tells : ℕ → List Choice → Bool → Outcome → Log → Log → Type 0
Tells budget list stranger (Accepted gain) old new = length old.trail < length new.trail
Tells budget list stranger Vain old new = stranger ≡ false → Contains (lists_of new.trail) list
Tells budget list stranger Full old new = (budget ≤ length new.trail) × (¬ Contains (lists_of new.trail) list)

-- the best record once some lists were tried up to the first better one
abbrev pub best_with : Option Gain → Record → Record
best_with None best = best
best_with (Some gain) best = gain.rec

-- where one was better, the trail is longer
abbrev pub Lengthens : Option Gain → Log → Log → Type 0
Lengthens None old new = Unit {0}
Lengthens (Some gain) old new = length old.trail < length new.trail
