-- What values make of values, and how one part of an expression follows another.
use Rattle.std.specs.Prelude.{ℕ, ◌+◌, ℤ, pos, negsuc, ◌+ℤ◌, ◌-ℤ◌, ◌*ℤ◌, int_lt, int_le, int_div, int_rem, not, ◌&&◌, Bool, Result, Ok, Err, List, [], ◌∷◌, ◌++◌, slice_get, if◌then◌else◌}
use Rattle.std.specs.Ordering.{int_eq}
use Rattle.std.specs.Option.{ok_or}
use Rattle.std.proofs.Math.Bool.{beq}
use Rattle.pt_val.specs.declared.place.Place.{Place}
use Rattle.pt_val.specs.declared.val.Val.{Val}
use Rattle.pt_val.specs.declared.val.Val.TheVariants as val
use Rattle.pt_val.specs.Size.{size_of}
use Rattle.pt_case.specs.declared.ending.What.{What}
use Rattle.pt_case.specs.declared.ending.What.TheVariants as what
use Rattle.pt_case.specs.declared.ending.Origin.{Origin}
use Rattle.pt_case.specs.declared.ending.Origin.TheVariants.{Suite}
use Rattle.pt_ast.specs.declared.binding.Binding.{Binding}
use Rattle.pt_ast.specs.declared.expr.Binder.{Binder}
use Rattle.pt_ast.specs.declared.expr.Binder.TheVariants.{All, Any, Each}
use Rattle.pt_ast.specs.declared.expr.CompareOp.{CompareOp}
use Rattle.pt_ast.specs.declared.expr.CompareOp.TheVariants.{Eq, Ne, Lt, Le, Gt, Ge}
use Rattle.pt_ast.specs.declared.expr.Op.{Op}
use Rattle.pt_ast.specs.declared.expr.Op.TheVariants.{Add, Sub, Mul, Div, Rem}
use Rattle.pt_eval.specs.Env.{bound}
use Rattle.pt_eval.specs.Parts.{or_zero, number_of, truth_of, items_of, parts_of}
use Rattle.pt_eval.specs.Same.{same_value}

-- this fault at this place
abbrev pub fault : {A : Type 0} → What → Place → Result A Origin
fault what at = Err (Suite what at)

-- a value, and then what follows from it; a fault stays
abbrev pub after : {A B : Type 0} → Result A Origin → (A → Result B Origin) → Result B Origin
after (Ok value) next = next value
after (Err origin) next = Err origin

-- what a value leads to counts; after a fault nothing does
abbrev pub costs_after : {A : Type 0} → Result A Origin → (A → ℕ) → ℕ
costs_after (Ok value) next = next value
costs_after (Err origin) next = 0

-- what a part counts of its own: 1 and the size of its value
abbrev pub counted : Result Val Origin → ℕ
counted (Ok value) = 1 + size_of value
counted (Err origin) = 0

-- a number of 64 bits, or else an overflow
abbrev pub in_range : Place → ℤ → Result Val Origin
in_range at number = if int_le (negsuc 9223372036854775807) number && int_le number (pos 9223372036854775807) then Ok (val.Int number) else fault what.Overflow at

-- what an operator makes of two numbers; a remainder overflows where the quotient does
abbrev pub applied : Op → Place → ℤ → ℤ → Result Val Origin
applied Add at left right = in_range at (left +ℤ right)
applied Sub at left right = in_range at (left -ℤ right)
applied Mul at left right = in_range at (left *ℤ right)
applied Div at left right = if int_eq right (pos 0) then fault what.Division at else in_range at (int_div left right)
applied Rem at left right = if int_eq right (pos 0) then fault what.Division at else
    after (in_range at (int_div left right)) (λ quotient. Ok (val.Int (int_rem left right)))

-- whether two values compare so
abbrev pub compared : CompareOp → Val → Val → Bool
compared Eq left right = same_value left right
compared Ne left right = not (same_value left right)
compared Lt left right = int_lt (number_of left) (number_of right)
compared Le left right = int_le (number_of left) (number_of right)
compared Gt left right = int_lt (number_of right) (number_of left)
compared Ge left right = int_le (number_of right) (number_of left)

-- the item at an index, counted from 0
abbrev pub indexed : Place → Val → ℤ → Result Val Origin
indexed at value (pos index) = ok_or (slice_get (items_of value) index) (Suite what.Index at)
indexed at value (negsuc index) = fault what.Index at

-- the part of a tuple with this number, counted from 0
abbrev pub part_at : Val → ℤ → Val
part_at value (pos place) = or_zero (slice_get (parts_of value) place)
part_at value (negsuc place) = val.Int (pos 0)

-- the values of an expression for each member
abbrev pub each_gives : (List Binding → Result Val Origin) → List ℕ → List Binding → List Val → Result (List Val) Origin
each_gives body name env [] = Ok []
each_gives body name env (member ∷ members) =
    after (body (env ++ bound name member ∷ [])) (λ value. after (each_gives body name env members) (λ values. Ok (value ∷ values)))

abbrev pub each_costs : (List Binding → Result Val Origin) → (List Binding → ℕ) → List ℕ → List Binding → List Val → ℕ
each_costs body cost name env [] = 0
each_costs body cost name env (member ∷ members) =
    cost (env ++ bound name member ∷ [])
    + costs_after (body (env ++ bound name member ∷ [])) (λ value. each_costs body cost name env members)

-- whether the truth value is met at a member: it is given, and the others are not looked at, or the other one is given
abbrev pub seek_gives : Bool → (List Binding → Result Val Origin) → List ℕ → List Binding → List Val → Result Val Origin
seek_gives sought body name env [] = Ok (val.Bool (not sought))
seek_gives sought body name env (member ∷ members) = after (body (env ++ bound name member ∷ [])) (λ value.
    if beq (truth_of value) sought then Ok (val.Bool sought) else seek_gives sought body name env members)

abbrev pub seek_costs : Bool → (List Binding → Result Val Origin) → (List Binding → ℕ) → List ℕ → List Binding → List Val → ℕ
seek_costs sought body cost name env [] = 0
seek_costs sought body cost name env (member ∷ members) =
    cost (env ++ bound name member ∷ []) + costs_after (body (env ++ bound name member ∷ [])) (λ value.
    if beq (truth_of value) sought then 0 else seek_costs sought body cost name env members)
