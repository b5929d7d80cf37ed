-- What values hold. A value of another sort, which a well typed expression never meets here, stands for 0, for false or for nothing.
use Rattle.std.specs.Prelude.{ℕ, ℤ, pos, Bool, false, Option, List, [], ◌∷◌, map, length, min, ◌-◌, ◌^◌}
use Rattle.std.specs.Option.{unwrap_or}
use Rattle.std.specs.List.{flat_map}
use Rattle.pt_val.specs.declared.val.Val.{Val}
use Rattle.pt_val.specs.declared.val.Val.TheVariants as val
use Rattle.pt_val.specs.declared.val.Val.TheOpen.{Val-F}
use Rattle.pt_val.specs.declared.val.Val.TheOpen as shape
use Rattle.pt_val.specs.declared.val.Val.TheViews.{out-Val}
use Rattle.pt_val.specs.declared.val.Val.TheFolds.{fold-Val}

abbrev pub or_zero : Option Val → Val
or_zero value = unwrap_or value (val.Int (pos 0))

abbrev pub number_in : Val-F Val → ℤ
number_in (shape.Int number) = number
number_in _ = pos 0

abbrev pub number_of : Val → ℤ
number_of value = number_in (out-Val value)

abbrev pub truth_in : Val-F Val → Bool
truth_in (shape.Bool truth) = truth
truth_in _ = false

abbrev pub truth_of : Val → Bool
truth_of value = truth_in (out-Val value)

abbrev pub members_in : Val-F Val → List Val
members_in (shape.List members) = members
members_in _ = []

-- the members of a list
abbrev pub members_of : Val → List Val
members_of value = members_in (out-Val value)

abbrev pub parts_in : Val-F Val → List Val
parts_in (shape.Tuple parts) = parts
parts_in _ = []

-- the parts of a tuple
abbrev pub parts_of : Val → List Val
parts_of value = parts_in (out-Val value)

abbrev pub items_in : Val-F Val → List Val
items_in (shape.List members) = members
items_in (shape.Bytes bytes) = map (λ byte. val.Int (pos byte)) bytes
items_in _ = []

-- what an index counts: the members of a list, or the bytes of bytes as numbers
abbrev pub items_of : Val → List Val
items_of value = items_in (out-Val value)

abbrev pub length_in : Val-F Val → ℕ
length_in (shape.Text chars) = length chars
length_in (shape.Bytes bytes) = length bytes
length_in (shape.List members) = length members
length_in _ = 0

-- the length of a text, bytes or a list, which no number of 64 bits fails to hold but in a value too large for any memory
abbrev pub length_of : Val → ℕ
length_of value = min (length_in (out-Val value)) (2 ^ 63 - 1)

abbrev pub label_in : Val-F Val → ℤ
label_in (shape.Node label children) = label
label_in _ = pos 0

abbrev pub label_of : Val → ℤ
label_of value = label_in (out-Val value)

abbrev pub children_in : Val-F Val → List Val
children_in (shape.Node label children) = children
children_in _ = []

abbrev pub children_of : Val → List Val
children_of value = children_in (out-Val value)

-- a node's label and then those of its children, where each child is given by its labels
abbrev pub labels_step : Val-F (List ℤ) → List ℤ
labels_step (shape.Node label children) = label ∷ flat_map (λ labels. labels) children
labels_step _ = []

-- the labels of a tree, each before those below it
abbrev pub labels_of : Val → List ℤ
labels_of = fold-Val (List ℤ) labels_step
