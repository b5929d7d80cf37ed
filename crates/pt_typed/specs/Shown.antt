-- Values as the suite language has them.
use Rattle.std.specs.Prelude.{Result, Ok, Err, List, [], ◌∷◌, map, Vec, vec_items}
use Rattle.pt_val.specs.declared.val.Val.{Val}
use Rattle.pt_val.specs.declared.val.Val.TheVariants as val

-- a pair of values
abbrev pub pair_of : Val → Val → Val
pair_of first second = val.Tuple (first ∷ second ∷ [])

-- a list of values
abbrev pub list_of : {V Z : Type 0} → (V → Val) → Vec V Z → Val
list_of shown items = val.List (map shown (vec_items items))

-- what a draw answers, where each of its values is shown so
abbrev pub shown_by : {V W E : Type 0} → (V → W) → Result V E → Result W E
shown_by shown (Ok value) = Ok (shown value)
shown_by shown (Err why) = Err why
