-- What a value of the suite language is, for functions that a caller writes.
use Rattle.std.specs.Prelude.{ℕ, ℤ, pos, Bool, false, List, [], ◌∷◌}
use Rattle.pt_val.specs.declared.val.Val.{Val}
use Rattle.pt_val.specs.declared.val.Val as val
use Rattle.pt_val.specs.declared.val.Val.TheOpen.{Val-F}
use Rattle.pt_val.specs.declared.val.Val.TheOpen as shape
use Rattle.pt_val.specs.declared.val.Val.TheViews.{out-Val}

-- the integer, the truth value, the characters and the bytes of a value, where it is of that sort
abbrev pub number_of : Val → ℤ
number_of (val.Int number) = number
number_of _ = pos 0

abbrev pub truth_of : Val → Bool
truth_of (val.Bool truth) = truth
truth_of _ = false

abbrev pub text_of : Val → List ℕ
text_of (val.Text chars) = chars
text_of _ = []

abbrev pub bytes_of : Val → List ℕ
bytes_of (val.Bytes bytes) = bytes
bytes_of _ = []

-- the members of a list or a tuple, and none of any other value
abbrev pub members_in : Val-F Val → List Val
members_in (shape.List members) = members
members_in (shape.Tuple members) = members
members_in _ = []

abbrev pub members_of : Val → List Val
members_of value = members_in (out-Val value)

-- the first and the second of two values, and of any others this one
abbrev pub first_in : Val → List Val → Val
first_in other (first ∷ second ∷ []) = first
first_in other _ = other

abbrev pub second_in : Val → List Val → Val
second_in other (first ∷ second ∷ []) = second
second_in other _ = other

-- the first and the second member of a pair, where the value is one
abbrev pub first_of : Val → Val
first_of value = first_in value (members_of value)

abbrev pub second_of : Val → Val
second_of value = second_in value (members_of value)
