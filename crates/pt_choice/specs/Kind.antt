-- What the kinds of choices are, and which choices answer them.
use Rattle.std.specs.Prelude.{◌^◌, ◌-◌, ◌≤◌, ◌≤ℤ◌, ◌-ℤ◌, ◌&&◌, Bool, true, false, pos, int_le, nat_le, nat_lt, length, replicate, if◌then◌else◌}
use Rattle.std.specs.List.{list_all}
use Rattle.pt_choice.specs.declared.kind.Shape.{Shape}
use Rattle.pt_choice.specs.declared.kind.Shape.TheVariants as shape
use Rattle.pt_choice.specs.declared.choice.Choice.{Choice}
use Rattle.pt_choice.specs.declared.choice.Choice.TheVariants as choice

-- the shape is within its limits
abbrev pub IsShape : Shape → Type 0
IsShape (shape.Bool chance) = (1 ≤ chance) × (chance ≤ 15)
IsShape (shape.Int lo hi) = (lo ≤ℤ pos 0) × (pos 0 ≤ℤ hi) × ((hi -ℤ lo) ≤ℤ pos (2 ^ 64 - 1))
IsShape (shape.Bytes min max) = (min ≤ max) × (max ≤ 64)
IsShape (shape.Text min max size) = (min ≤ max) × (max ≤ 64) × (1 ≤ size) × (size ≤ 256)

-- the choice has the shape's sort and is within its bounds
abbrev pub admits : Shape → Choice → Bool
admits (shape.Bool chance) (choice.Bool value) = true
admits (shape.Int lo hi) (choice.Int value) = int_le lo value && int_le value hi
admits (shape.Bytes min max) (choice.Bytes bytes) = nat_le min (length bytes) && nat_le (length bytes) max
admits (shape.Text min max size) (choice.Text places) =
    nat_le min (length places) && nat_le (length places) max && list_all (λ place. nat_lt place size) places
admits asked other = false

-- the choice that every reduction goes toward
abbrev pub simplest : Shape → Choice
simplest (shape.Bool chance) = choice.Bool false
simplest (shape.Int lo hi) = choice.Int (pos 0)
simplest (shape.Bytes min max) = choice.Bytes (replicate min 0)
simplest (shape.Text min max size) = choice.Text (replicate min 0)

-- the choice itself where it is admitted, and else the simplest one
abbrev pub fit : Shape → Choice → Choice
fit asked given = if admits asked given then given else simplest asked

-- a choice of this shape holds nothing in memory of its own
abbrev pub AsksSmall : Shape → Type 0
AsksSmall (shape.Bool chance) = Unit {0}
AsksSmall (shape.Int lo hi) = Unit {0}
AsksSmall (shape.Bytes min max) = ⊥
AsksSmall (shape.Text min max size) = ⊥

-- the choice holds nothing in memory of its own
abbrev pub IsSmall : Choice → Type 0
IsSmall (choice.Bool value) = Unit {0}
IsSmall (choice.Int value) = Unit {0}
IsSmall (choice.Bytes bytes) = ⊥
IsSmall (choice.Text places) = ⊥
