use Rattle.std.proofs.Common.{refl}
use Rattle.std.specs.Prelude.{[], ◌∷◌, codes}
use Rattle.pt_ast.specs.declared.expr.Binder.TheVariants.{All, Any, Each}
use Rattle.pt_ast.specs.declared.expr.Func.TheVariants.{Len, Has, Sum, Cat, Rev, Leaf, Node, Label, Kids, Labels}
use Rattle.pt_ast.specs.Trees.{Bind_of}
use Rattle.pt_typing.specs.Fault.{Unknown, Twice, Wrong}
use Rattle.tests_typing.specs.Parts.{at, called, one, yes, word, z, lost, listed, tupled, call, plus, with_x}
use Rattle.pt_typing.proofs.Exprs.{expr-check}
use Rattle.tests_typing.proofs.rows.call_rows.Goals as goal

pub returns : goal.returns
returns c = record {
  one_too_many = (expr-check (call 1 Len (lost 2 ∷ lost 3 ∷ [])) []).stops (Wrong (at 1)) refl;
  one_too_few = (expr-check (call 1 Has (lost 2 ∷ [])) []).stops (Wrong (at 1)) refl;
  three = (expr-check (call 1 Cat (lost 2 ∷ lost 3 ∷ lost 4 ∷ [])) []).stops (Wrong (at 1)) refl;
  length_of_a_number = (expr-check (call 1 Len (one 2 ∷ [])) []).stops (Wrong (at 2)) refl;
  list_before_the_member = (expr-check (call 1 Has (one 2 ∷ lost 3 ∷ [])) []).stops (Wrong (at 2)) refl;
  member_of_another_type = (expr-check (call 1 Has (listed 2 (one 3 ∷ []) ∷ yes 4 ∷ [])) []).stops (Wrong (at 4)) refl;
  has_the_other_way_round = (expr-check (call 1 Has (one 2 ∷ listed 3 (one 4 ∷ []) ∷ [])) []).stops (Wrong (at 2)) refl;
  sum_of_truths = (expr-check (call 1 Sum (listed 2 (yes 3 ∷ []) ∷ [])) []).stops (Wrong (at 2)) refl;
  first_of_cat = (expr-check (call 1 Cat (one 2 ∷ lost 3 ∷ [])) []).stops (Wrong (at 2)) refl;
  second_of_cat = (expr-check (call 1 Cat (word 2 ∷ listed 3 (one 4 ∷ []) ∷ [])) []).stops (Wrong (at 3)) refl;
  rev_of_a_tuple = (expr-check (call 1 Rev (tupled 2 (one 3 ∷ one 4 ∷ []) ∷ [])) []).stops (Wrong (at 2)) refl;
  label_of_a_leaf = (expr-check (call 1 Leaf (yes 2 ∷ [])) []).stops (Wrong (at 2)) refl;
  label_of_a_node = (expr-check (call 1 Node (yes 2 ∷ lost 3 ∷ [])) []).stops (Wrong (at 2)) refl;
  children_of_a_node = (expr-check (call 1 Node (one 2 ∷ listed 3 (one 4 ∷ []) ∷ [])) []).stops (Wrong (at 3)) refl;
  label_of_a_number = (expr-check (call 1 Label (one 2 ∷ [])) []).stops (Wrong (at 2)) refl;
  kids_of_a_list = (expr-check (call 1 Kids (listed 2 (one 3 ∷ []) ∷ [])) []).stops (Wrong (at 2)) refl;
  labels_of_a_text = (expr-check (call 1 Labels (word 2 ∷ [])) []).stops (Wrong (at 2)) refl;
  name_before_the_list = (expr-check (Bind_of (at 1) All (called 2 (codes "x")) (lost 3) (lost 4)) with_x).stops (Twice (at 2)) refl;
  list_before_the_body = (expr-check (Bind_of (at 1) Each (called 2 (codes "z")) (one 3) (lost 4)) []).stops (Wrong (at 3)) refl;
  truth_for_all = (expr-check (Bind_of (at 1) All (called 2 (codes "z")) (listed 3 (one 4 ∷ [])) (z 5)) []).stops (Wrong (at 5)) refl;
  truth_for_any = (expr-check (Bind_of (at 1) Any (called 2 (codes "z")) (listed 3 (one 4 ∷ [])) (plus 5 (z 5) (one 6 ∷ []))) []).stops (Wrong (at 5)) refl;
  not_in_its_own_list = (expr-check (Bind_of (at 1) Each (called 2 (codes "z")) (listed 3 (z 4 ∷ [])) (one 5)) []).stops (Unknown (at 4)) refl;
  free_again_after_it = (expr-check (tupled 1 (Bind_of (at 2) Each (called 3 (codes "z")) (listed 4 (one 5 ∷ [])) (z 6) ∷ z 7 ∷ [])) []).stops (Unknown (at 7)) refl;
}
