-- What every admitted choice keeps to.
use Rattle.std.specs.Prelude.{ℕ, ◌^◌, ◌<◌, ◌≤◌, ℤ, unsigned_abs, List, length}
use Rattle.std.specs.Coded.{Unit-prop, le_prop}
use Rattle.pt_choice.specs.declared.choice.Choice.{Choice}
use Rattle.pt_choice.specs.declared.choice.Choice.TheVariants as choice

-- the magnitude is at most the greatest number of 64 bits
abbrev pub IsBounded : ℤ → Type 0
IsBounded value = unsigned_abs value < 2 ^ 64

-- no more values than one choice may hold
abbrev pub IsFew : List ℕ → Type 0
IsFew values = length values ≤ 64

-- no kind admits a choice past these limits
abbrev pub IsInLimits : Choice → Type 0
IsInLimits (choice.Bool value) = Unit {0}
IsInLimits (choice.Int value) = IsBounded value
IsInLimits (choice.Bytes bytes) = IsFew bytes
IsInLimits (choice.Text places) = IsFew places

pub IsInLimits-prop : (member : Choice) → IsProp (IsInLimits member)
IsInLimits-prop (choice.Bool value) = Unit-prop
IsInLimits-prop (choice.Int value) = le_prop
IsInLimits-prop (choice.Bytes bytes) = le_prop
IsInLimits-prop (choice.Text places) = le_prop
