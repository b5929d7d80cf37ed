-- What the functions of the language make of their arguments.
use Rattle.std.specs.Prelude.{ℤ, pos, ◌+ℤ◌, Result, Ok, List, [], ◌∷◌, ◌++◌, map, reverse}
use Rattle.std.specs.List.{list_any}
use Rattle.pt_val.specs.declared.place.Place.{Place}
use Rattle.pt_val.specs.declared.val.Val.{Val}
use Rattle.pt_val.specs.declared.val.Val.TheVariants as val
use Rattle.pt_val.specs.declared.val.Val.TheOpen.{Val-F}
use Rattle.pt_val.specs.declared.val.Val.TheOpen as shape
use Rattle.pt_val.specs.declared.val.Val.TheViews.{out-Val, roll-Val}
use Rattle.pt_case.specs.declared.ending.Origin.{Origin}
use Rattle.pt_ast.specs.declared.expr.Func.{Func}
use Rattle.pt_ast.specs.declared.expr.Func.TheVariants.{Len, Has, Sum, Cat, Rev, Leaf, Node, Label, Kids, Labels}
use Rattle.pt_eval.specs.Parts.{number_of, members_of, length_of, label_of, children_of, labels_of}
use Rattle.pt_eval.specs.Same.{same_value}
use Rattle.pt_eval.specs.Steps.{after, in_range}

-- the sum of this and the members' numbers, from left to right
abbrev pub total : Place → ℤ → List Val → Result Val Origin
total at so_far [] = Ok (val.Int so_far)
total at so_far (member ∷ members) = after (in_range at (so_far +ℤ number_of member)) (λ sum. total at (number_of sum) members)

-- two texts, two bytes or two lists, one after the other; nothing follows a value of another sort
abbrev pub joined_in : Val-F Val → Val-F Val → Val
joined_in (shape.Text chars) (shape.Text others) = val.Text (chars ++ others)
joined_in (shape.Bytes bytes) (shape.Bytes others) = val.Bytes (bytes ++ others)
joined_in (shape.List members) (shape.List others) = val.List (members ++ others)
joined_in first second = roll-Val first

abbrev pub joined : Val → Val → Val
joined first second = joined_in (out-Val first) (out-Val second)

-- a text, bytes or a list from its end to its beginning
abbrev pub reversed_in : Val-F Val → Val
reversed_in (shape.Text chars) = val.Text (reverse chars)
reversed_in (shape.Bytes bytes) = val.Bytes (reverse bytes)
reversed_in (shape.List members) = val.List (reverse members)
reversed_in value = roll-Val value

abbrev pub reversed : Val → Val
reversed value = reversed_in (out-Val value)

-- what a function makes of its arguments; of more or fewer than it takes, which no well typed call has, it makes 0
abbrev pub call_value : Func → Place → List Val → Result Val Origin
call_value Len at (sequence ∷ []) = Ok (val.Int (pos (length_of sequence)))
call_value Has at (list ∷ sought ∷ []) = Ok (val.Bool (list_any (λ member. same_value member sought) (members_of list)))
call_value Sum at (list ∷ []) = total at (pos 0) (members_of list)
call_value Cat at (first ∷ second ∷ []) = Ok (joined first second)
call_value Rev at (sequence ∷ []) = Ok (reversed sequence)
call_value Leaf at (label ∷ []) = Ok (val.Node (number_of label) [])
call_value Node at (label ∷ children ∷ []) = Ok (val.Node (number_of label) (members_of children))
call_value Label at (tree ∷ []) = Ok (val.Int (label_of tree))
call_value Kids at (tree ∷ []) = Ok (val.List (children_of tree))
call_value Labels at (tree ∷ []) = Ok (val.List (map (λ label. val.Int label) (labels_of tree)))
call_value func at arguments = Ok (val.Int (pos 0))
