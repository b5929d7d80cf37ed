-- Types that are the same.
use Rattle.std.proofs.Common.{◌≡◌, Bool, true, false, refl, ◌∙◌, ap}
use Rattle.std.specs.Prelude.{◌&&◌}
use Rattle.pt_ast.specs.Types.{TypeTree, Int_type, Bool_type, Text_type, Bytes_type, Tree_type, List_type, Tuple_type, TypeTrees, no_type, more_type}
use Rattle.pt_typing.specs.Served.{same_type, same_types}

both : (left right : Bool) → left && right ≡ true → (left ≡ true) × (right ≡ true)
both true true is = (refl, refl)
both true false is = cc
both false right is = cc

mutual
  pub same-self : (type : TypeTree) → same_type type type ≡ true
  same-self Int_type = refl
  same-self Bool_type = refl
  same-self Text_type = refl
  same-self Bytes_type = refl
  same-self Tree_type = refl
  same-self (List_type member) = same-self member
  same-self (Tuple_type types) = same-selves types

  same-selves : (types : TypeTrees) → same_types types types ≡ true
  same-selves no_type = refl
  same-selves (more_type type types) = ap (λ b. b && same_types types types) (same-self type) ∙ same-selves types

mutual
  pub same-is : (left right : TypeTree) → same_type left right ≡ true → left ≡ right
  same-is Int_type Int_type is = refl
  same-is Bool_type Bool_type is = refl
  same-is Text_type Text_type is = refl
  same-is Bytes_type Bytes_type is = refl
  same-is Tree_type Tree_type is = refl
  same-is (List_type left) (List_type right) is = ap List_type (same-is left right is)
  same-is (Tuple_type left) (Tuple_type right) is = ap Tuple_type (same-are left right is)
  same-is _ _ is = cc

  same-are : (left right : TypeTrees) → same_types left right ≡ true → left ≡ right
  same-are no_type no_type is = refl
  same-are (more_type left lefts) (more_type right rights) is =
      let so = both (same_type left right) (same_types lefts rights) is in
      ap (λ t. more_type t lefts) (same-is left right so.0) ∙ ap (more_type right) (same-are lefts rights so.1)
  same-are _ _ is = cc
