-- Two sibling spans exchanged.
use Rattle.std.specs.Prelude.{ℕ, ◌≤◌, Bool, ◌&&◌, nat_eq, nat_le, if◌then◌else◌, Option, Some, None, List, [], ◌∷◌, ◌++◌, take, drop}
use Rattle.std.specs.List.{find}
use Rattle.std.specs.Option.{option_eq}
use Rattle.std.specs.Ordering.{is_lt}
use Rattle.pt_choice.specs.Order.{shortlex}
use Rattle.pt_choice.specs.declared.choice.Choice.{Choice}
use Rattle.pt_case.specs.declared.span.Span.{Span}
use Rattle.pt_cand.specs.Each.{at_each}
use Rattle.pt_cand.specs.Region.{before, inside, after}

-- they have the same parent, or have both none
abbrev pub are_siblings : Span → Span → Bool
are_siblings one other = option_eq nat_eq one.parent other.parent

-- the second span stands behind the first, within so many choices
pub record InOrder (count : ℕ) (one other : Span) : Type 0 where
  pub begins : one.from ≤ one.to
  pub behind : one.to ≤ other.from
  pub ends : other.from ≤ other.to
  pub within : other.to ≤ count

-- two regions exchanged, and what lies between left
abbrev pub swapped : List Choice → Span → Span → List Choice
swapped choices one other =
    before one choices ++ inside other choices ++ drop one.to (take other.from choices) ++ inside one choices ++ after other choices

-- of one label, the second one behind the first, and the list with both exchanged comes before this one
abbrev pub may_swap : List Choice → Span → Span → Bool
may_swap choices one other = nat_eq one.label other.label && nat_le one.to other.from && is_lt (shortlex (swapped choices one other) choices)

abbrev pub swap_with : List Choice → Span → Option Span → List (List Choice)
swap_with choices one None = []
swap_with choices one (Some other) = if may_swap choices one other then swapped choices one other ∷ [] else []

-- a span and the next one with its parent
abbrev pub swap_at : List Choice → List Span → Span → List Span → List (List Choice)
swap_at choices earlier one later = swap_with choices one (find (are_siblings one) later)

abbrev pub swap_siblings : List Choice → List Span → List (List Choice)
swap_siblings choices spans = at_each (swap_at choices) [] spans
