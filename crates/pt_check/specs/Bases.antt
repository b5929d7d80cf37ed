-- The types that hold no others.
use Rattle.std.specs.Prelude.{ℕ, Bool, true, false}
use Rattle.pt_ast.specs.Types.{TypeTree, Int_type, Bool_type, Text_type, Bytes_type, Tree_type}
use Rattle.pt_types.specs.declared.shape.Shape.{Shape}
use Rattle.pt_types.specs.declared.shape.Shape.TheVariants as shape
use Rattle.pt_check.specs.declared.base.Base.{Base}
use Rattle.pt_check.specs.declared.base.Base.TheVariants as base

abbrev pub base_type : Base → TypeTree
base_type base.Int = Int_type
base_type base.Bool = Bool_type
base_type base.Text = Text_type
base_type base.Bytes = Bytes_type
base_type base.Tree = Tree_type

-- its number among the types that are kept from the beginning
abbrev pub base_number : Base → ℕ
base_number base.Int = 0
base_number base.Bool = 1
base_number base.Text = 2
base_number base.Bytes = 3
base_number base.Tree = 4

-- whether the shape is a tuple's
abbrev pub is_tuple_shape : Shape → Bool
is_tuple_shape shape.Empty = true
is_tuple_shape (shape.Tuple first behind) = true
is_tuple_shape _ = false
