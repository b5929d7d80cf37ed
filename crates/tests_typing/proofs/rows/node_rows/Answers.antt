use Rattle.std.proofs.Common.{refl}
use Rattle.std.specs.Prelude.{None, [], ◌∷◌, codes}
use Rattle.pt_ast.specs.Trees.{Ints_of, Sampled_of, Lists_of, Tuples_of, OneOf_of, Map_of, Filter_of, FlatMap_of, Recursive_of, strats_of}
use Rattle.pt_typing.specs.Fault.{Unknown, Twice, Wrong}
use Rattle.tests_typing.specs.Parts.{at, called, one, yes, z, lost, listed, ints, bools, with_x}
use Rattle.tests_typing.specs.StratRows.{again}
use Rattle.pt_typing.proofs.Strats.{strat-check}
use Rattle.tests_typing.proofs.rows.node_rows.Goals as goal

pub returns : goal.returns
returns c = record {
  element_before_bounds = (strat-check (Lists_of (at 1) 0 (again 2) (lost 3) (lost 4)) [] None).stops (Unknown (at 2)) refl;
  bound_of_lists = (strat-check (Lists_of (at 1) 0 (ints 2) (one 3) (yes 4)) [] None).stops (Wrong (at 4)) refl;
  later_of_tuples = (strat-check (Tuples_of (at 1) 0 (strats_of (ints 2 ∷ again 3 ∷ again 4 ∷ []))) [] None).stops (Unknown (at 3)) refl;
  later_of_one_of = (strat-check (OneOf_of (at 1) 0 (strats_of (ints 2 ∷ ints 3 ∷ bools 4 ∷ []))) [] None).stops (Wrong (at 4)) refl;
  empty_one_of = (strat-check (OneOf_of (at 1) 0 (strats_of [])) [] None).stops (Wrong (at 1)) refl;
  name_of_map = (strat-check (Map_of (at 1) 0 (called 2 (codes "x")) (again 3) (lost 4)) with_x None).stops (Twice (at 2)) refl;
  body_of_map = (strat-check (Map_of (at 1) 0 (called 2 (codes "z")) (ints 3) (lost 4)) [] None).stops (Unknown (at 4)) refl;
  not_in_its_own_strategy = (strat-check (Map_of (at 1) 0 (called 2 (codes "z")) (Sampled_of (at 3) 0 (listed 4 (z 5 ∷ []))) (z 6)) [] None).stops (Unknown (at 5)) refl;
  free_again_after_map = (strat-check (Tuples_of (at 1) 0 (strats_of (Map_of (at 2) 0 (called 3 (codes "z")) (ints 4) (z 5) ∷ Sampled_of (at 6) 0 (listed 7 (z 8 ∷ [])) ∷ []))) [] None).stops (Unknown (at 8)) refl;
  condition_of_filter = (strat-check (Filter_of (at 1) 0 (called 2 (codes "z")) (ints 3) (z 4)) [] None).stops (Wrong (at 4)) refl;
  name_of_flatmap = (strat-check (FlatMap_of (at 1) 0 (called 2 (codes "x")) (again 3) (again 4)) with_x None).stops (Twice (at 2)) refl;
  second_of_flatmap = (strat-check (FlatMap_of (at 1) 0 (called 2 (codes "z")) (bools 3) (Ints_of (at 4) 0 (z 5) (one 6))) [] None).stops (Wrong (at 5)) refl;
  self_alone = (strat-check (again 1) [] None).stops (Unknown (at 1)) refl;
  self_at_the_bottom = (strat-check (Recursive_of (at 1) 0 2 (again 2) (again 3)) [] None).stops (Unknown (at 2)) refl;
  self_after_recursive = (strat-check (Tuples_of (at 1) 0 (strats_of (Recursive_of (at 2) 0 2 (ints 3) (again 4) ∷ again 5 ∷ []))) [] None).stops (Unknown (at 5)) refl;
  other_type_above = (strat-check (Recursive_of (at 1) 0 2 (ints 2) (Lists_of (at 3) 0 (again 4) (one 5) (one 6))) [] None).stops (Wrong (at 3)) refl;
  inner_self_is_its_own = (strat-check (Recursive_of (at 1) 0 2 (ints 2) (Recursive_of (at 3) 0 2 (bools 4) (again 5))) [] None).stops (Wrong (at 3)) refl;
}
