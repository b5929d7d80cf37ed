use Rattle.std.proofs.Common.{refl}
use Rattle.std.specs.Prelude.{[], ◌∷◌, codes}
use Rattle.pt_ast.specs.Trees.{Assert_of, Check_of, Property_of}
use Rattle.pt_typing.specs.Fault.{Unknown, Twice, Wrong, UnknownCheck}
use Rattle.tests_typing.specs.Parts.{at, called, one, yes, lost, plus, item, suite}
use Rattle.pt_typing.proofs.Suites.{suite-check}
use Rattle.tests_typing.proofs.rows.suite_rows.Goals as goal

pub returns : goal.returns
returns c = record {
  truth_added = (suite-check [] (suite (item (called 10 (codes "p")) (Property_of (Assert_of (at 14) (plus 21 (one 21) (yes 25 ∷ [])) ∷ [])) ∷ []))).stops (Wrong (at 25)) refl;
  unknown_name = (suite-check [] (suite (item (called 10 (codes "p")) (Property_of (Assert_of (at 14) (lost 21) ∷ [])) ∷ []))).stops (Unknown (at 21)) refl;
  unknown_check = (suite-check (codes "never" ∷ []) (suite (item (called 7 (codes "nope")) Check_of ∷ []))).stops (UnknownCheck (at 7)) refl;
  check_twice = (suite-check (codes "never" ∷ []) (suite (item (called 7 (codes "never")) Check_of ∷ item (called 19 (codes "never")) Check_of ∷ []))).stops (Twice (at 19)) refl;
  twice_before_unknown = (suite-check [] (suite (item (called 1 (codes "nope")) (Property_of []) ∷ item (called 2 (codes "nope")) Check_of ∷ []))).stops (Twice (at 2)) refl;
  in_the_first_item = (suite-check [] (suite (item (called 1 (codes "nope")) Check_of ∷ item (called 2 (codes "nope")) Check_of ∷ []))).stops (UnknownCheck (at 1)) refl;
}
