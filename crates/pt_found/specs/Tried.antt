-- The entries of a trail.
use Rattle.std.specs.Prelude.{◌≡◌, ◌≤◌, Bool, Option, Some, None, List, map, length, slice_get}
use Rattle.pt_choice.specs.declared.choice.Choice.{Choice}

-- a list that was tried, and whether its record became the best one
pub record Tried : Type 0 where
  pub list : List Choice
  pub accepted : Bool

-- the pairs of a table, as entries
abbrev pub tried_in : List (List Choice × Bool) → List Tried
tried_in pairs = map (λ pair. record { list = pair.0; accepted = pair.1 }) pairs
