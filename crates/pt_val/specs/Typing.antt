-- Which values are of which type.
use Rattle.std.specs.Prelude.{Bool, true, false, ◌&&◌, List, [], ◌∷◌}
use Rattle.std.specs.List.{list_all}
use Rattle.pt_val.specs.declared.val.Val.{Val}
use Rattle.pt_val.specs.declared.val.Val.TheOpen.{Val-F}
use Rattle.pt_val.specs.declared.val.Val.TheOpen as val
use Rattle.pt_val.specs.declared.val.Val.TheFolds.{fold-Val}
use Rattle.pt_val.specs.declared.ty.Ty.{Ty}
use Rattle.pt_val.specs.declared.ty.Ty.TheOpen.{Ty-F}
use Rattle.pt_val.specs.declared.ty.Ty.TheOpen as ty
use Rattle.pt_val.specs.declared.ty.Ty.TheVariants as type
use Rattle.pt_val.specs.declared.ty.Ty.TheViews.{out-Ty}

-- there are as many members as types, and each member is of its own; a member is given by its test of a type
abbrev pub are_of : List (Ty → Bool) → List Ty → Bool
are_of [] [] = true
are_of (is_of ∷ members) (type ∷ types) = is_of type && are_of members types
are_of _ _ = false

-- a value is of a type, where each member is given by its test of a type
abbrev pub fits : Val-F (Ty → Bool) → Ty-F Ty → Bool
fits (val.Int number) ty.Int = true
fits (val.Bool truth) ty.Bool = true
fits (val.Text chars) ty.Text = true
fits (val.Bytes bytes) ty.Bytes = true
fits (val.List members) (ty.List member) = list_all (λ is_of. is_of member.value) members
fits (val.Tuple members) (ty.Tuple types) = are_of members types
fits (val.Node label children) ty.Tree = list_all (λ is_of. is_of type.Tree) children
fits _ _ = false

-- the value is of the type
abbrev pub has_type : Val → Ty → Bool
has_type = fold-Val (Ty → Bool) (λ shape type. fits shape (out-Ty type))
