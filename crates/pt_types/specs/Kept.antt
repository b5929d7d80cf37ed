-- Types that are kept once.
use Rattle.std.specs.Prelude.{◌≡◌, ℕ, zero, suc, ◌<◌, List, [], ◌∷◌, ◌++◌, length, slice_get, Some}
use Rattle.pt_ast.specs.Types.{TypeTree, Int_type, Bool_type, Text_type, Bytes_type, Tree_type, List_type, Tuple_type, TypeTrees, no_type, more_type}
use Rattle.pt_typing.specs.Serving.{IsTuple}
use Rattle.pt_types.specs.declared.shape.Shape.{Shape}
use Rattle.pt_types.specs.declared.shape.Shape.TheVariants as shape

-- the type at a place
abbrev pub type_at : List TypeTree → ℕ → TypeTree
type_at [] number = Int_type
type_at (first ∷ others) zero = first
type_at (first ∷ others) (suc number) = type_at others number

-- the types of a tuple's parts
abbrev pub types_under : TypeTree → TypeTrees
types_under (Tuple_type types) = types
types_under _ = no_type

-- the type of a shape, where the types that it is made of are known
abbrev pub tree_of : List TypeTree → Shape → TypeTree
tree_of trees shape.Int = Int_type
tree_of trees shape.Bool = Bool_type
tree_of trees shape.Text = Text_type
tree_of trees shape.Bytes = Bytes_type
tree_of trees shape.Tree = Tree_type
tree_of trees (shape.List member) = List_type (type_at trees member)
tree_of trees shape.Empty = Tuple_type no_type
tree_of trees (shape.Tuple first behind) = Tuple_type (more_type (type_at trees first) (types_under (type_at trees behind)))

-- the types that a shape is made of are known
abbrev pub IsWithin : List TypeTree → Shape → Type 0
IsWithin trees shape.Int = Unit {0}
IsWithin trees shape.Bool = Unit {0}
IsWithin trees shape.Text = Unit {0}
IsWithin trees shape.Bytes = Unit {0}
IsWithin trees shape.Tree = Unit {0}
IsWithin trees (shape.List member) = member < length trees
IsWithin trees shape.Empty = Unit {0}
IsWithin trees (shape.Tuple first behind) = (first < length trees) × (behind < length trees) × IsTuple (type_at trees behind)

-- the types of more shapes, each made of those before it
abbrev pub grown : List TypeTree → List Shape → List TypeTree
grown trees [] = trees
grown trees (first ∷ others) = grown (trees ++ tree_of trees first ∷ []) others

abbrev pub trees_of : List Shape → List TypeTree
trees_of shapes = grown [] shapes

-- each shape is made of types before it
abbrev pub AreOrderedFrom : List TypeTree → List Shape → Type 0
AreOrderedFrom trees [] = Unit {0}
AreOrderedFrom trees (first ∷ others) = IsWithin trees first × AreOrderedFrom (trees ++ tree_of trees first ∷ []) others

abbrev pub AreOrdered : List Shape → Type 0
AreOrdered shapes = AreOrderedFrom [] shapes

-- each shape stands there once
abbrev pub StandOnce : List Shape → Type 0
StandOnce shapes = (place other : ℕ) (one : Shape) → slice_get shapes place ≡ Some one → slice_get shapes other ≡ Some one → place ≡ other

abbrev pub AreKept : List Shape → Type 0
AreKept shapes = AreOrdered shapes × StandOnce shapes

-- the type of a number
abbrev pub type_of : List Shape → ℕ → TypeTree
type_of shapes number = type_at (trees_of shapes) number

-- all that was kept is kept
abbrev pub Grows : List Shape → List Shape → Type 0
Grows old new = (more : List Shape) × (new ≡ old ++ more)

-- the type has this number
abbrev pub Keeps : List Shape → ℕ → TypeTree → Type 0
Keeps shapes number type = (number < length shapes) × (type_of shapes number ≡ type)

-- the types that are kept from the beginning
abbrev pub base_shapes : List Shape
base_shapes = shape.Int ∷ shape.Bool ∷ shape.Text ∷ shape.Bytes ∷ shape.Tree ∷ shape.Empty ∷ []
