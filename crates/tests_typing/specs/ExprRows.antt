-- Expressions with their first faults, worked by hand.
use Rattle.std.specs.Prelude.{[], ◌∷◌, codes}
use Rattle.pt_ast.specs.declared.expr.Binder.TheVariants.{All, Any, Each}
use Rattle.pt_ast.specs.declared.expr.CompareOp.TheVariants.{Eq, Ne, Lt, Ge}
use Rattle.pt_ast.specs.declared.expr.Func.TheVariants.{Len, Has, Sum, Cat, Rev, Leaf, Node, Label, Kids, Labels}
use Rattle.pt_ast.specs.declared.expr.Op.TheVariants.{Mul}
use Rattle.pt_ast.specs.Trees.{If_of, Or_of, And_of, Not_of, Compare_of, Prod_of, Neg_of, Bind_of, Bracket_of, exprs_of, tail_of, tails_of}
use Rattle.pt_typing.specs.Fault.{Unknown, Twice, Wrong}
use Rattle.pt_typing.specs.ExprFaults.{FaultIn}
use Rattle.tests_typing.specs.Parts.{at, called, one, yes, word, z, lost, listed, tupled, call, plus, index, part, behind, with_x}

-- operators, branches, brackets
pub record OperatorRows : Type 0 where
  pub no_such_name : FaultIn with_x (z 1) (Unknown (at 1))
  pub condition : FaultIn [] (If_of (at 1) (one 2) (lost 3) (lost 4)) (Wrong (at 2))
  pub first_branch : FaultIn [] (If_of (at 1) (yes 2) (lost 3) (lost 4)) (Unknown (at 3))
  pub branches_of_two_types : FaultIn [] (If_of (at 1) (yes 2) (one 3) (yes 4)) (Wrong (at 4))
  pub right_of_or : FaultIn [] (Or_of (at 1) (exprs_of (yes 1 ∷ one 2 ∷ lost 3 ∷ []))) (Wrong (at 2))
  pub left_of_and : FaultIn [] (And_of (at 1) (exprs_of (one 1 ∷ lost 2 ∷ []))) (Wrong (at 1))
  pub part_of_not : FaultIn [] (Not_of (at 1) (one 2)) (Wrong (at 2))
  pub equal_types : FaultIn [] (Compare_of (at 1) (one 1) Eq (yes 2)) (Wrong (at 2))
  pub unequal_types : FaultIn [] (Compare_of (at 1) (listed 1 (one 2 ∷ [])) Ne (listed 3 (yes 4 ∷ []))) (Wrong (at 3))
  pub left_is_compared_first : FaultIn [] (Compare_of (at 1) (yes 1) Lt (lost 2)) (Wrong (at 1))
  pub right_of_an_order : FaultIn [] (Compare_of (at 1) (one 1) Ge (word 2)) (Wrong (at 2))
  pub first_of_a_sum : FaultIn [] (plus 1 (yes 1) (lost 2 ∷ [])) (Wrong (at 1))
  pub later_of_a_sum : FaultIn [] (plus 1 (one 1) (one 2 ∷ yes 3 ∷ lost 4 ∷ [])) (Wrong (at 3))
  pub right_of_a_product : FaultIn [] (Prod_of (at 1) (one 1) (tails_of (tail_of (at 2) Mul (word 3) ∷ []))) (Wrong (at 3))
  pub part_of_a_minus : FaultIn [] (Neg_of (at 1) (yes 2)) (Wrong (at 2))
  pub inside_a_bracket : FaultIn [] (Bracket_of (at 1) (plus 2 (one 2) (yes 3 ∷ []))) (Wrong (at 3))
  pub a_bracket_itself : FaultIn [] (Not_of (at 1) (Bracket_of (at 2) (one 3))) (Wrong (at 2))
  pub an_if_itself : FaultIn [] (Not_of (at 1) (If_of (at 2) (yes 3) (one 4) (one 5))) (Wrong (at 2))
  pub later_of_a_tuple : FaultIn [] (tupled 1 (one 2 ∷ lost 3 ∷ lost 4 ∷ [])) (Unknown (at 3))
  pub later_of_a_list : FaultIn [] (listed 1 (one 2 ∷ one 3 ∷ yes 4 ∷ [])) (Wrong (at 4))
  pub empty_list : FaultIn [] (listed 1 []) (Wrong (at 1))

-- indexes and parts
pub record PostRows : Type 0 where
  pub base_before_its_index : FaultIn [] (behind (one 1) 1 (index 2 (lost 3) ∷ [])) (Wrong (at 1))
  pub index_of_another_type : FaultIn [] (behind (listed 1 (one 2 ∷ [])) 1 (index 3 (yes 4) ∷ [])) (Wrong (at 4))
  pub a_text_has_no_index : FaultIn [] (behind (word 1) 1 (index 2 (one 3) ∷ [])) (Wrong (at 1))
  pub second_base : FaultIn [] (behind (listed 1 (one 2 ∷ [])) 1 (index 3 (one 4) ∷ index 5 (lost 6) ∷ [])) (Wrong (at 1))
  pub no_tuple : FaultIn [] (behind (listed 1 (one 2 ∷ [])) 1 (part 3 0 ∷ [])) (Wrong (at 1))
  pub no_such_part : FaultIn [] (behind (tupled 1 (one 2 ∷ yes 3 ∷ [])) 1 (part 4 2 ∷ [])) (Wrong (at 4))
  pub part_of_a_part : FaultIn [] (behind (tupled 1 (one 2 ∷ yes 3 ∷ [])) 1 (part 4 1 ∷ part 5 0 ∷ [])) (Wrong (at 1))

-- functions and binders
pub record CallRows : Type 0 where
  pub one_too_many : FaultIn [] (call 1 Len (lost 2 ∷ lost 3 ∷ [])) (Wrong (at 1))
  pub one_too_few : FaultIn [] (call 1 Has (lost 2 ∷ [])) (Wrong (at 1))
  pub three : FaultIn [] (call 1 Cat (lost 2 ∷ lost 3 ∷ lost 4 ∷ [])) (Wrong (at 1))
  pub length_of_a_number : FaultIn [] (call 1 Len (one 2 ∷ [])) (Wrong (at 2))
  pub list_before_the_member : FaultIn [] (call 1 Has (one 2 ∷ lost 3 ∷ [])) (Wrong (at 2))
  pub member_of_another_type : FaultIn [] (call 1 Has (listed 2 (one 3 ∷ []) ∷ yes 4 ∷ [])) (Wrong (at 4))
  pub has_the_other_way_round : FaultIn [] (call 1 Has (one 2 ∷ listed 3 (one 4 ∷ []) ∷ [])) (Wrong (at 2))
  pub sum_of_truths : FaultIn [] (call 1 Sum (listed 2 (yes 3 ∷ []) ∷ [])) (Wrong (at 2))
  pub first_of_cat : FaultIn [] (call 1 Cat (one 2 ∷ lost 3 ∷ [])) (Wrong (at 2))
  pub second_of_cat : FaultIn [] (call 1 Cat (word 2 ∷ listed 3 (one 4 ∷ []) ∷ [])) (Wrong (at 3))
  pub rev_of_a_tuple : FaultIn [] (call 1 Rev (tupled 2 (one 3 ∷ one 4 ∷ []) ∷ [])) (Wrong (at 2))
  pub label_of_a_leaf : FaultIn [] (call 1 Leaf (yes 2 ∷ [])) (Wrong (at 2))
  pub label_of_a_node : FaultIn [] (call 1 Node (yes 2 ∷ lost 3 ∷ [])) (Wrong (at 2))
  pub children_of_a_node : FaultIn [] (call 1 Node (one 2 ∷ listed 3 (one 4 ∷ []) ∷ [])) (Wrong (at 3))
  pub label_of_a_number : FaultIn [] (call 1 Label (one 2 ∷ [])) (Wrong (at 2))
  pub kids_of_a_list : FaultIn [] (call 1 Kids (listed 2 (one 3 ∷ []) ∷ [])) (Wrong (at 2))
  pub labels_of_a_text : FaultIn [] (call 1 Labels (word 2 ∷ [])) (Wrong (at 2))
  pub name_before_the_list : FaultIn with_x (Bind_of (at 1) All (called 2 (codes "x")) (lost 3) (lost 4)) (Twice (at 2))
  pub list_before_the_body : FaultIn [] (Bind_of (at 1) Each (called 2 (codes "z")) (one 3) (lost 4)) (Wrong (at 3))
  pub truth_for_all : FaultIn [] (Bind_of (at 1) All (called 2 (codes "z")) (listed 3 (one 4 ∷ [])) (z 5)) (Wrong (at 5))
  pub truth_for_any : FaultIn [] (Bind_of (at 1) Any (called 2 (codes "z")) (listed 3 (one 4 ∷ [])) (plus 5 (z 5) (one 6 ∷ []))) (Wrong (at 5))
  pub not_in_its_own_list : FaultIn [] (Bind_of (at 1) Each (called 2 (codes "z")) (listed 3 (z 4 ∷ [])) (one 5)) (Unknown (at 4))
  pub free_again_after_it : FaultIn [] (tupled 1 (Bind_of (at 2) Each (called 3 (codes "z")) (listed 4 (one 5 ∷ [])) (z 6) ∷ z 7 ∷ [])) (Unknown (at 7))
