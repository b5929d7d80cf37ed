use Rattle.std.proofs.Common.{refl}
use Rattle.std.specs.Prelude.{Some, None, [], ◌∷◌, codes}
use Rattle.pt_ast.specs.Types.{Int_type}
use Rattle.pt_ast.specs.Trees.{Bracket_of, Map_of, Draw_of, Let_of, Assume_of, Assert_of, Pick_of, Set_of, Give_of}
use Rattle.pt_ast.specs.Suites.{no_context}
use Rattle.pt_typing.specs.Fault.{Unknown, Twice, Wrong}
use Rattle.tests_typing.specs.Parts.{at, called, one, yes, x, lost, ints, with_x, beside}
use Rattle.pt_typing.proofs.Suites.{stmts-check}
use Rattle.tests_typing.proofs.rows.stmt_rows.Goals as goal

pub returns : goal.returns
returns c = record {
  not_in_its_own_value = (stmts-check (Let_of (at 1) (called 2 (codes "x")) (x 3) ∷ []) no_context []).stops (Unknown (at 3)) refl;
  name_before_its_value = (stmts-check (Let_of (at 1) (called 2 (codes "x")) (lost 3) ∷ []) no_context with_x).stops (Twice (at 2)) refl;
  drawn_twice = (stmts-check (Draw_of (at 1) (called 2 (codes "x")) (ints 3) ∷ Draw_of (at 4) (called 5 (codes "x")) (ints 6) ∷ []) no_context []).stops (Twice (at 5)) refl;
  taken_by_a_binder = (stmts-check (Draw_of (at 1) (called 2 (codes "z")) (Map_of (at 3) 0 (called 4 (codes "x")) (ints 5) (x 6)) ∷ []) no_context with_x).stops (Twice (at 4)) refl;
  a_number_assumed = (stmts-check (Assume_of (at 1) (one 2) ∷ []) no_context []).stops (Wrong (at 2)) refl;
  a_bracket_asserted = (stmts-check (Assert_of (at 1) (Bracket_of (at 2) (one 3)) ∷ []) no_context []).stops (Wrong (at 2)) refl;
  first_of_two = (stmts-check (Assert_of (at 1) (one 2) ∷ Assert_of (at 3) (lost 4) ∷ []) no_context []).stops (Wrong (at 2)) refl;
  no_bundle_in_a_property = (stmts-check (Pick_of (at 1) 0 (called 2 (codes "y")) (called 3 (codes "b")) ∷ []) no_context []).stops (Unknown (at 3)) refl;
  name_before_the_bundle = (stmts-check (Pick_of (at 1) 0 (called 2 (codes "x")) (called 3 (codes "c")) ∷ []) (beside None) with_x).stops (Twice (at 2)) refl;
  no_such_bundle = (stmts-check (Pick_of (at 1) 0 (called 2 (codes "y")) (called 3 (codes "c")) ∷ []) (beside None) with_x).stops (Unknown (at 3)) refl;
  a_variable_is_no_state = (stmts-check (Let_of (at 1) (called 2 (codes "z")) (one 3) ∷ Set_of (at 4) (called 5 (codes "z")) (one 6) ∷ []) (beside None) with_x).stops (Unknown (at 5)) refl;
  set_to_another_type = (stmts-check (Set_of (at 1) (called 2 (codes "x")) (yes 3) ∷ []) (beside None) with_x).stops (Wrong (at 3)) refl;
  give_without_into = (stmts-check (Give_of (at 1) (lost 2) ∷ []) (beside None) with_x).stops (Wrong (at 1)) refl;
  given_of_another_type = (stmts-check (Give_of (at 1) (yes 2) ∷ []) (beside (Some Int_type)) with_x).stops (Wrong (at 2)) refl;
}
