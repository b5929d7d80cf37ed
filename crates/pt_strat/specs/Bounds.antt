-- What the bounds of a strategy come to: they are evaluated before anything is drawn, the left one first.
use Rattle.std.specs.Prelude.{ℕ, ℤ, pos, negsuc, int_lt, ◌||◌, Result, Ok, List, if◌then◌else◌}
use Rattle.pt_val.specs.declared.place.Place.{Place}
use Rattle.pt_case.specs.declared.ending.What.TheVariants.{Bounds}
use Rattle.pt_case.specs.declared.ending.Origin.{Origin}
use Rattle.pt_ast.specs.declared.binding.Binding.{Binding}
use Rattle.pt_ast.specs.Trees.{ExprTree}
use Rattle.pt_eval.specs.Parts.{number_of}
use Rattle.pt_eval.specs.Steps.{fault, after}
use Rattle.pt_eval.specs.Value.{evaluated}
use Rattle.pt_strat.specs.declared.bounds.Range.{Range}
use Rattle.pt_strat.specs.declared.bounds.Lengths.{Lengths}

-- the numbers of two expressions
abbrev pub both_of : ExprTree → ExprTree → List Binding → Result Range Origin
both_of lo hi env = after (evaluated lo env) (λ a. after (evaluated hi env) (λ b. Ok (record { lo = number_of a; hi = number_of b })))

-- the number of one that is not below 0
abbrev pub count_of : ℤ → ℕ
count_of (pos count) = count
count_of (negsuc less) = 0

-- bounds of integers are bad where the left one is above the right one
abbrev pub in_order : Place → Range → Result Range Origin
in_order at range = if int_lt range.hi range.lo then fault Bounds at else Ok range

-- bounds of lengths are bad unless they are in order from 0 to the most that there may be
abbrev pub as_lengths : Place → ℕ → Range → Result Lengths Origin
as_lengths at most range =
    if int_lt range.lo (pos 0) || int_lt range.hi range.lo || int_lt (pos most) range.hi then fault Bounds at
    else Ok (record { least = count_of range.lo; most = count_of range.hi })

abbrev pub range_of : Place → ExprTree → ExprTree → List Binding → Result Range Origin
range_of at lo hi env = after (both_of lo hi env) (in_order at)

abbrev pub lengths_of : Place → ℕ → ExprTree → ExprTree → List Binding → Result Lengths Origin
lengths_of at most lo hi env = after (both_of lo hi env) (as_lengths at most)
