-- Types as they are compared, and what is given for a value of a type.
use Rattle.std.specs.Prelude.{ℤ, pos, negsuc, Bool, true, false, ◌&&◌, Option, Some, None, if◌then◌else◌}
use Rattle.pt_ast.specs.declared.expr.Binder.{Binder}
use Rattle.pt_ast.specs.declared.expr.Binder.TheVariants.{All, Any, Each}
use Rattle.pt_ast.specs.declared.expr.CompareOp.{CompareOp}
use Rattle.pt_ast.specs.declared.expr.CompareOp.TheVariants.{Eq, Ne, Lt, Le, Gt, Ge}
use Rattle.pt_ast.specs.declared.expr.Func.{Func}
use Rattle.pt_ast.specs.declared.expr.Func.TheVariants.{Len, Has, Sum, Cat, Rev, Leaf, Node, Label, Kids, Labels}
use Rattle.pt_ast.specs.Types.{TypeTree, Int_type, Bool_type, Text_type, Bytes_type, Tree_type, List_type, Tuple_type, TypeTrees, no_type, more_type}
use Rattle.pt_ast.specs.Typing.{part_type}

abbrev mutual
  pub same_type : TypeTree → TypeTree → Bool
  same_type Int_type Int_type = true
  same_type Bool_type Bool_type = true
  same_type Text_type Text_type = true
  same_type Bytes_type Bytes_type = true
  same_type Tree_type Tree_type = true
  same_type (List_type member) (List_type other) = same_type member other
  same_type (Tuple_type types) (Tuple_type others) = same_types types others
  same_type _ _ = false

  pub same_types : TypeTrees → TypeTrees → Bool
  same_types no_type no_type = true
  same_types (more_type type types) (more_type other others) = same_type type other && same_types types others
  same_types _ _ = false

-- something, where the types are the same
abbrev pub if_same : {A : Type 0} → TypeTree → TypeTree → A → Option A
if_same found type value = if same_type found type then Some value else None

abbrev pub list_member : TypeTree → Option TypeTree
list_member (List_type member) = Some member
list_member _ = None

-- what an index takes
abbrev pub index_member : TypeTree → Option TypeTree
index_member (List_type member) = Some member
index_member Bytes_type = Some Int_type
index_member _ = None

abbrev pub tuple_types : TypeTree → Option TypeTrees
tuple_types (Tuple_type types) = Some types
tuple_types _ = None

abbrev pub part_at : ℤ → TypeTrees → Option TypeTree
part_at (pos place) types = part_type place types
part_at (negsuc place) types = None

-- what is given for a text, bytes or a list
abbrev pub of_sequence : TypeTree → TypeTree → Option TypeTree
of_sequence Text_type type = Some type
of_sequence Bytes_type type = Some type
of_sequence (List_type member) type = Some type
of_sequence _ type = None

-- the left side of a comparison
abbrev pub left_side : CompareOp → TypeTree → Option TypeTree
left_side Eq side = Some side
left_side Ne side = Some side
left_side Lt side = if_same side Int_type side
left_side Le side = if_same side Int_type side
left_side Gt side = if_same side Int_type side
left_side Ge side = if_same side Int_type side

-- what a binder makes of such items
abbrev pub bound_type : Binder → TypeTree → Option TypeTree
bound_type All item = if_same item Bool_type Bool_type
bound_type Any item = if_same item Bool_type Bool_type
bound_type Each item = Some (List_type item)

-- whether a function takes one value; else it takes two
abbrev pub takes_one : Func → Bool
takes_one Len = true
takes_one Has = false
takes_one Sum = true
takes_one Cat = false
takes_one Rev = true
takes_one Leaf = true
takes_one Node = false
takes_one Label = true
takes_one Kids = true
takes_one Labels = true

-- what a function gives for one value
abbrev pub given_alone : Func → TypeTree → Option TypeTree
given_alone Len from = of_sequence from Int_type
given_alone Has from = None
given_alone Sum from = if_same from (List_type Int_type) Int_type
given_alone Cat from = None
given_alone Rev from = of_sequence from from
given_alone Leaf from = if_same from Int_type Tree_type
given_alone Node from = None
given_alone Label from = if_same from Tree_type Int_type
given_alone Kids from = if_same from Tree_type (List_type Tree_type)
given_alone Labels from = if_same from Tree_type (List_type Int_type)

-- the first of two values of a function: the type that its second has to have
abbrev pub second_needed : Func → TypeTree → Option TypeTree
second_needed Has from = list_member from
second_needed Cat from = of_sequence from from
second_needed Node from = if_same from Int_type (List_type Tree_type)
second_needed _ from = None

-- what a function gives for two values, of which the second has this type
abbrev pub given_both : Func → TypeTree → TypeTree
given_both Has second = Bool_type
given_both Cat second = second
given_both Node second = Tree_type
given_both _ second = second
