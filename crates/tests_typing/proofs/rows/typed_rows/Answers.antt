use Rattle.std.proofs.Common.{refl}
use Rattle.std.specs.Prelude.{[], ◌∷◌, codes}
use Rattle.pt_ast.specs.Trees.{Map_of, Draw_of, Check_of, Property_of, Machine_of}
use Rattle.pt_ast.specs.Suites.{no_context}
use Rattle.tests_typing.specs.Parts.{at, called, x, ints, with_x, item, suite}
use Rattle.tests_typing.specs.SuiteRows.{namesakes}
use Rattle.pt_typing.proofs.Suites.{stmts-check, suite-check}
use Rattle.tests_typing.proofs.rows.typed_rows.Goals as goal

pub returns : goal.returns
returns c = record {
  never_is_known = (suite-check (codes "never" ∷ []) (suite (item (called 7 (codes "never")) Check_of ∷ []))).comes tt refl;
  a_property_is_no_check = (suite-check [] (suite (item (called 1 (codes "nope")) (Property_of []) ∷ []))).comes tt refl;
  a_property_like_a_check = (suite-check (codes "never" ∷ []) (suite (item (called 1 (codes "never")) (Property_of []) ∷ []))).comes tt refl;
  four_spaces_of_names = (suite-check [] (suite (item (called 0 (codes "m")) (Machine_of (namesakes (codes "m"))) ∷ []))).comes tt refl;
  drawn_by_its_own_name = (stmts-check (Draw_of (at 1) (called 2 (codes "x")) (Map_of (at 3) 0 (called 4 (codes "x")) (ints 5) (x 6)) ∷ []) no_context []).comes with_x refl;
}
