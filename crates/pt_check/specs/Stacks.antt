-- Stacks, the newest first.
use Rattle.std.specs.Prelude.{Option, Some, None, List, [], ◌∷◌}

-- the newest, or this where there are none
abbrev pub newest : {A : Type 0} → A → List A → A
newest none [] = none
newest none (first ∷ others) = first

-- those that are older than the newest
abbrev pub behind : {A : Type 0} → List A → List A
behind [] = []
behind (first ∷ others) = others

-- the newest, if there is one
abbrev pub first_of : {A : Type 0} → List A → Option A
first_of [] = None
first_of (first ∷ others) = Some first
