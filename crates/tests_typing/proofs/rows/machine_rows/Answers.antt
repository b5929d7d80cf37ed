use Rattle.std.proofs.Common.{refl}
use Rattle.std.specs.Prelude.{Some, None, [], ◌∷◌, codes}
use Rattle.pt_ast.specs.Types.{Int_type, Bool_type}
use Rattle.pt_ast.specs.Trees.{Let_of}
use Rattle.pt_typing.specs.Fault.{Unknown, Twice, Wrong}
use Rattle.tests_typing.specs.Parts.{at, called, one, yes, x, lost, state, bundle, invariant, rule, machine}
use Rattle.pt_typing.proofs.Suites.{machine-check}
use Rattle.tests_typing.proofs.rows.machine_rows.Goals as goal

pub returns : goal.returns
returns c = record {
  state_not_in_its_own_value = (machine-check (machine (state (called 1 (codes "x")) (x 2) ∷ []) [] [] [])).stops (Unknown (at 2)) refl;
  state_twice = (machine-check (machine (state (called 1 (codes "x")) (one 2) ∷ state (called 3 (codes "x")) (lost 4) ∷ []) [] [] [])).stops (Twice (at 3)) refl;
  bundle_twice = (machine-check (machine [] (bundle (called 1 (codes "b")) Int_type ∷ bundle (called 2 (codes "b")) Bool_type ∷ []) (invariant (one 3) ∷ []) [])).stops (Twice (at 2)) refl;
  invariant_is_a_truth = (machine-check (machine (state (called 1 (codes "x")) (one 2) ∷ []) [] (invariant (yes 3) ∷ invariant (x 4) ∷ []) [])).stops (Wrong (at 4)) refl;
  rule_twice = (machine-check (machine [] [] [] (rule (called 1 (codes "r")) None None [] ∷ rule (called 2 (codes "r")) (Some (lost 3)) None [] ∷ []))).stops (Twice (at 2)) refl;
  state_as_a_variable = (machine-check (machine (state (called 1 (codes "x")) (one 2) ∷ []) [] [] (rule (called 3 (codes "r")) None None (Let_of (at 4) (called 5 (codes "x")) (one 6) ∷ []) ∷ []))).stops (Twice (at 5)) refl;
}
