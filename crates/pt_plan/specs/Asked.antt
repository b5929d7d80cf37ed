-- What is asked for most.
use Rattle.std.specs.Prelude.{ℕ, ℤ, pos, Bool, false}
use Rattle.pt_choice.specs.declared.choice.Choice.{Choice}
use Rattle.pt_choice.specs.declared.choice.Choice.TheVariants as choice
use Rattle.pt_choice.specs.declared.kind.Shape.TheVariants as kind
use Rattle.pt_plan.specs.Plan.{Plan, Gives, Asks}

-- the boolean of a choice, where it is one
abbrev pub flag_in : Choice → Bool
flag_in (choice.Bool flag) = flag
flag_in _ = false

-- the integer of a choice, where it is one
abbrev pub integer_in : Choice → ℤ
integer_in (choice.Int number) = number
integer_in _ = pos 0

-- a boolean is asked for, true with a chance of so many sixteenths
abbrev pub asked_flag : ℕ → Plan Bool
asked_flag chance = Asks (kind.Bool chance) (λ answer. Gives (flag_in answer))

-- an integer between these bounds, which are allowed, is asked for
abbrev pub asked_integer : ℤ → ℤ → Plan ℤ
asked_integer lo hi = Asks (kind.Int lo hi) (λ answer. Gives (integer_in answer))
