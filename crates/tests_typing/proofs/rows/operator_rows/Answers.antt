use Rattle.std.proofs.Common.{refl}
use Rattle.std.specs.Prelude.{[], ◌∷◌}
use Rattle.pt_ast.specs.declared.expr.CompareOp.TheVariants.{Eq, Ne, Lt, Ge}
use Rattle.pt_ast.specs.declared.expr.Op.TheVariants.{Mul}
use Rattle.pt_ast.specs.Trees.{If_of, Or_of, And_of, Not_of, Compare_of, Prod_of, Neg_of, Bracket_of, exprs_of, tail_of, tails_of}
use Rattle.pt_typing.specs.Fault.{Unknown, Wrong}
use Rattle.tests_typing.specs.Parts.{at, one, yes, word, z, lost, listed, tupled, plus, with_x}
use Rattle.pt_typing.proofs.Exprs.{expr-check}
use Rattle.tests_typing.proofs.rows.operator_rows.Goals as goal

pub returns : goal.returns
returns c = record {
  no_such_name = (expr-check (z 1) with_x).stops (Unknown (at 1)) refl;
  condition = (expr-check (If_of (at 1) (one 2) (lost 3) (lost 4)) []).stops (Wrong (at 2)) refl;
  first_branch = (expr-check (If_of (at 1) (yes 2) (lost 3) (lost 4)) []).stops (Unknown (at 3)) refl;
  branches_of_two_types = (expr-check (If_of (at 1) (yes 2) (one 3) (yes 4)) []).stops (Wrong (at 4)) refl;
  right_of_or = (expr-check (Or_of (at 1) (exprs_of (yes 1 ∷ one 2 ∷ lost 3 ∷ []))) []).stops (Wrong (at 2)) refl;
  left_of_and = (expr-check (And_of (at 1) (exprs_of (one 1 ∷ lost 2 ∷ []))) []).stops (Wrong (at 1)) refl;
  part_of_not = (expr-check (Not_of (at 1) (one 2)) []).stops (Wrong (at 2)) refl;
  equal_types = (expr-check (Compare_of (at 1) (one 1) Eq (yes 2)) []).stops (Wrong (at 2)) refl;
  unequal_types = (expr-check (Compare_of (at 1) (listed 1 (one 2 ∷ [])) Ne (listed 3 (yes 4 ∷ []))) []).stops (Wrong (at 3)) refl;
  left_is_compared_first = (expr-check (Compare_of (at 1) (yes 1) Lt (lost 2)) []).stops (Wrong (at 1)) refl;
  right_of_an_order = (expr-check (Compare_of (at 1) (one 1) Ge (word 2)) []).stops (Wrong (at 2)) refl;
  first_of_a_sum = (expr-check (plus 1 (yes 1) (lost 2 ∷ [])) []).stops (Wrong (at 1)) refl;
  later_of_a_sum = (expr-check (plus 1 (one 1) (one 2 ∷ yes 3 ∷ lost 4 ∷ [])) []).stops (Wrong (at 3)) refl;
  right_of_a_product = (expr-check (Prod_of (at 1) (one 1) (tails_of (tail_of (at 2) Mul (word 3) ∷ []))) []).stops (Wrong (at 3)) refl;
  part_of_a_minus = (expr-check (Neg_of (at 1) (yes 2)) []).stops (Wrong (at 2)) refl;
  inside_a_bracket = (expr-check (Bracket_of (at 1) (plus 2 (one 2) (yes 3 ∷ []))) []).stops (Wrong (at 3)) refl;
  a_bracket_itself = (expr-check (Not_of (at 1) (Bracket_of (at 2) (one 3))) []).stops (Wrong (at 2)) refl;
  an_if_itself = (expr-check (Not_of (at 1) (If_of (at 2) (yes 3) (one 4) (one 5))) []).stops (Wrong (at 2)) refl;
  later_of_a_tuple = (expr-check (tupled 1 (one 2 ∷ lost 3 ∷ lost 4 ∷ [])) []).stops (Unknown (at 3)) refl;
  later_of_a_list = (expr-check (listed 1 (one 2 ∷ one 3 ∷ yes 4 ∷ [])) []).stops (Wrong (at 4)) refl;
  empty_list = (expr-check (listed 1 []) []).stops (Wrong (at 1)) refl;
}
