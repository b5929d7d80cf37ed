-- Strategies with their first faults, worked by hand.
use Rattle.std.specs.Prelude.{ℕ, None, [], ◌∷◌, codes}
use Rattle.pt_ast.specs.declared.strat.Alphabet.{Alphabet}
use Rattle.pt_ast.specs.Trees.{StratTree, Ints_of, Texts_of, Blobs_of, Sampled_of, Lists_of, Tuples_of, OneOf_of, Map_of, Filter_of, FlatMap_of, Recursive_of, Self_of, strats_of}
use Rattle.pt_typing.specs.Fault.{Unknown, Twice, Wrong}
use Rattle.pt_typing.specs.StratFaults.{FaultInStrat}
use Rattle.tests_typing.specs.Parts.{at, called, one, yes, word, z, lost, listed, ints, bools, with_x}

abbrev pub letters : ℕ → Alphabet
letters column = record { at = at column; chars = codes "ab" }

abbrev pub repeated : ℕ → Alphabet
repeated column = record { at = at column; chars = codes "aba" }

abbrev pub again : ℕ → StratTree
again column = Self_of (at column) 0

-- what draws one value
pub record LeafRows : Type 0 where
  pub left_bound_first : FaultInStrat [] None (Ints_of (at 1) 0 (yes 2) (lost 3)) (Wrong (at 2))
  pub right_bound : FaultInStrat [] None (Ints_of (at 1) 0 (one 2) (yes 3)) (Wrong (at 3))
  pub alphabet_before_bounds : FaultInStrat [] None (Texts_of (at 1) 0 (repeated 2) (lost 3) (lost 4)) (Twice (at 2))
  pub bound_of_texts : FaultInStrat [] None (Texts_of (at 1) 0 (letters 2) (one 3) (word 4)) (Wrong (at 4))
  pub bound_of_blobs : FaultInStrat [] None (Blobs_of (at 1) 0 (lost 2) (lost 3)) (Unknown (at 2))
  pub sampled_from_no_list : FaultInStrat [] None (Sampled_of (at 1) 0 (one 2)) (Wrong (at 2))

-- what is made of others
pub record NodeRows : Type 0 where
  pub element_before_bounds : FaultInStrat [] None (Lists_of (at 1) 0 (again 2) (lost 3) (lost 4)) (Unknown (at 2))
  pub bound_of_lists : FaultInStrat [] None (Lists_of (at 1) 0 (ints 2) (one 3) (yes 4)) (Wrong (at 4))
  pub later_of_tuples : FaultInStrat [] None (Tuples_of (at 1) 0 (strats_of (ints 2 ∷ again 3 ∷ again 4 ∷ []))) (Unknown (at 3))
  pub later_of_one_of : FaultInStrat [] None (OneOf_of (at 1) 0 (strats_of (ints 2 ∷ ints 3 ∷ bools 4 ∷ []))) (Wrong (at 4))
  pub empty_one_of : FaultInStrat [] None (OneOf_of (at 1) 0 (strats_of [])) (Wrong (at 1))
  pub name_of_map : FaultInStrat with_x None (Map_of (at 1) 0 (called 2 (codes "x")) (again 3) (lost 4)) (Twice (at 2))
  pub body_of_map : FaultInStrat [] None (Map_of (at 1) 0 (called 2 (codes "z")) (ints 3) (lost 4)) (Unknown (at 4))
  pub not_in_its_own_strategy : FaultInStrat [] None (Map_of (at 1) 0 (called 2 (codes "z")) (Sampled_of (at 3) 0 (listed 4 (z 5 ∷ []))) (z 6)) (Unknown (at 5))
  pub free_again_after_map :
      FaultInStrat [] None (Tuples_of (at 1) 0 (strats_of (Map_of (at 2) 0 (called 3 (codes "z")) (ints 4) (z 5) ∷ Sampled_of (at 6) 0 (listed 7 (z 8 ∷ [])) ∷ []))) (Unknown (at 8))
  pub condition_of_filter : FaultInStrat [] None (Filter_of (at 1) 0 (called 2 (codes "z")) (ints 3) (z 4)) (Wrong (at 4))
  pub name_of_flatmap : FaultInStrat with_x None (FlatMap_of (at 1) 0 (called 2 (codes "x")) (again 3) (again 4)) (Twice (at 2))
  pub second_of_flatmap : FaultInStrat [] None (FlatMap_of (at 1) 0 (called 2 (codes "z")) (bools 3) (Ints_of (at 4) 0 (z 5) (one 6))) (Wrong (at 5))
  pub self_alone : FaultInStrat [] None (again 1) (Unknown (at 1))
  pub self_at_the_bottom : FaultInStrat [] None (Recursive_of (at 1) 0 2 (again 2) (again 3)) (Unknown (at 2))
  pub self_after_recursive : FaultInStrat [] None (Tuples_of (at 1) 0 (strats_of (Recursive_of (at 2) 0 2 (ints 3) (again 4) ∷ again 5 ∷ []))) (Unknown (at 5))
  pub other_type_above : FaultInStrat [] None (Recursive_of (at 1) 0 2 (ints 2) (Lists_of (at 3) 0 (again 4) (one 5) (one 6))) (Wrong (at 3))
  pub inner_self_is_its_own :
      FaultInStrat [] None (Recursive_of (at 1) 0 2 (ints 2) (Recursive_of (at 3) 0 2 (bools 4) (again 5))) (Wrong (at 3))
