use Rattle.std.proofs.Common.{refl}
use Rattle.std.specs.Prelude.{Some, None, [], ◌∷◌, codes}
use Rattle.pt_ast.specs.Trees.{Assert_of}
use Rattle.pt_typing.specs.Fault.{Unknown, Wrong}
use Rattle.tests_typing.specs.Parts.{at, called, one, yes, lost, with_x, beside, rule}
use Rattle.pt_typing.proofs.Suites.{rule-check}
use Rattle.tests_typing.proofs.rows.rule_rows.Goals as goal

pub returns : goal.returns
returns c = record {
  when_is_a_truth = (rule-check with_x [] (rule (called 1 (codes "r")) (Some (one 2)) (Some (called 3 (codes "c"))) [])).stops (Wrong (at 2)) refl;
  into_before_the_body = (rule-check with_x [] (rule (called 1 (codes "r")) None (Some (called 2 (codes "c"))) (Assert_of (at 3) (lost 4) ∷ []))).stops (Unknown (at 2)) refl;
  body_before_a_missing_give = (rule-check with_x (beside None).bundles (rule (called 1 (codes "r")) None (Some (called 2 (codes "b"))) (Assert_of (at 3) (lost 4) ∷ []))).stops (Unknown (at 4)) refl;
  missing_give = (rule-check with_x (beside None).bundles (rule (called 1 (codes "r")) None (Some (called 2 (codes "b"))) (Assert_of (at 3) (yes 4) ∷ []))).stops (Wrong (at 2)) refl;
}
