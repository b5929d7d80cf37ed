-- Statements, machines and suites with their first faults, worked by hand.
use Rattle.std.specs.Prelude.{ℕ, Some, None, List, [], ◌∷◌, codes}
use Rattle.pt_ast.specs.Types.{Int_type, Bool_type}
use Rattle.pt_ast.specs.Trees.{MachineTree, Bracket_of, Map_of, Draw_of, Let_of, Assume_of, Assert_of, Pick_of, Set_of, Give_of, Check_of, Property_of, Machine_of}
use Rattle.pt_ast.specs.Suites.{no_context, BindAll, IsTyped}
use Rattle.pt_typing.specs.Fault.{Unknown, Twice, Wrong, UnknownCheck}
use Rattle.pt_typing.specs.SuiteFaults.{FaultInStmts, FaultInRule, FaultInMachine, FaultInSuite}
use Rattle.tests_typing.specs.Parts.{at, called, one, yes, x, lost, plus, ints, with_x, beside, state, bundle, invariant, rule, machine, item, suite}

pub record StmtRows : Type 0 where
  pub not_in_its_own_value : FaultInStmts no_context [] (Let_of (at 1) (called 2 (codes "x")) (x 3) ∷ []) (Unknown (at 3))
  pub name_before_its_value : FaultInStmts no_context with_x (Let_of (at 1) (called 2 (codes "x")) (lost 3) ∷ []) (Twice (at 2))
  pub drawn_twice : FaultInStmts no_context [] (Draw_of (at 1) (called 2 (codes "x")) (ints 3) ∷ Draw_of (at 4) (called 5 (codes "x")) (ints 6) ∷ []) (Twice (at 5))
  pub taken_by_a_binder :
      FaultInStmts no_context with_x (Draw_of (at 1) (called 2 (codes "z")) (Map_of (at 3) 0 (called 4 (codes "x")) (ints 5) (x 6)) ∷ []) (Twice (at 4))
  pub a_number_assumed : FaultInStmts no_context [] (Assume_of (at 1) (one 2) ∷ []) (Wrong (at 2))
  pub a_bracket_asserted : FaultInStmts no_context [] (Assert_of (at 1) (Bracket_of (at 2) (one 3)) ∷ []) (Wrong (at 2))
  pub first_of_two : FaultInStmts no_context [] (Assert_of (at 1) (one 2) ∷ Assert_of (at 3) (lost 4) ∷ []) (Wrong (at 2))
  pub no_bundle_in_a_property : FaultInStmts no_context [] (Pick_of (at 1) 0 (called 2 (codes "y")) (called 3 (codes "b")) ∷ []) (Unknown (at 3))
  pub name_before_the_bundle : FaultInStmts (beside None) with_x (Pick_of (at 1) 0 (called 2 (codes "x")) (called 3 (codes "c")) ∷ []) (Twice (at 2))
  pub no_such_bundle : FaultInStmts (beside None) with_x (Pick_of (at 1) 0 (called 2 (codes "y")) (called 3 (codes "c")) ∷ []) (Unknown (at 3))
  pub a_variable_is_no_state :
      FaultInStmts (beside None) with_x (Let_of (at 1) (called 2 (codes "z")) (one 3) ∷ Set_of (at 4) (called 5 (codes "z")) (one 6) ∷ []) (Unknown (at 5))
  pub set_to_another_type : FaultInStmts (beside None) with_x (Set_of (at 1) (called 2 (codes "x")) (yes 3) ∷ []) (Wrong (at 3))
  pub give_without_into : FaultInStmts (beside None) with_x (Give_of (at 1) (lost 2) ∷ []) (Wrong (at 1))
  pub given_of_another_type : FaultInStmts (beside (Some Int_type)) with_x (Give_of (at 1) (yes 2) ∷ []) (Wrong (at 2))

pub record RuleRows : Type 0 where
  pub when_is_a_truth : FaultInRule with_x [] (rule (called 1 (codes "r")) (Some (one 2)) (Some (called 3 (codes "c"))) []) (Wrong (at 2))
  pub into_before_the_body : FaultInRule with_x [] (rule (called 1 (codes "r")) None (Some (called 2 (codes "c"))) (Assert_of (at 3) (lost 4) ∷ [])) (Unknown (at 2))
  pub body_before_a_missing_give :
      FaultInRule with_x (beside None).bundles (rule (called 1 (codes "r")) None (Some (called 2 (codes "b"))) (Assert_of (at 3) (lost 4) ∷ [])) (Unknown (at 4))
  pub missing_give :
      FaultInRule with_x (beside None).bundles (rule (called 1 (codes "r")) None (Some (called 2 (codes "b"))) (Assert_of (at 3) (yes 4) ∷ [])) (Wrong (at 2))

pub record MachineRows : Type 0 where
  pub state_not_in_its_own_value : FaultInMachine (machine (state (called 1 (codes "x")) (x 2) ∷ []) [] [] []) (Unknown (at 2))
  pub state_twice : FaultInMachine (machine (state (called 1 (codes "x")) (one 2) ∷ state (called 3 (codes "x")) (lost 4) ∷ []) [] [] []) (Twice (at 3))
  pub bundle_twice :
      FaultInMachine (machine [] (bundle (called 1 (codes "b")) Int_type ∷ bundle (called 2 (codes "b")) Bool_type ∷ []) (invariant (one 3) ∷ []) []) (Twice (at 2))
  pub invariant_is_a_truth : FaultInMachine (machine (state (called 1 (codes "x")) (one 2) ∷ []) [] (invariant (yes 3) ∷ invariant (x 4) ∷ []) []) (Wrong (at 4))
  pub rule_twice :
      FaultInMachine (machine [] [] [] (rule (called 1 (codes "r")) None None [] ∷ rule (called 2 (codes "r")) (Some (lost 3)) None [] ∷ [])) (Twice (at 2))
  pub state_as_a_variable :
      FaultInMachine (machine (state (called 1 (codes "x")) (one 2) ∷ []) [] [] (rule (called 3 (codes "r")) None None (Let_of (at 4) (called 5 (codes "x")) (one 6) ∷ []) ∷ []))
      (Twice (at 5))

-- a machine whose state, bundle and rule bear its own name
abbrev pub namesakes : List ℕ → MachineTree
namesakes name = machine (state (called 1 name) (one 2) ∷ []) (bundle (called 3 name) Int_type ∷ []) [] (rule (called 4 name) None (Some (called 5 name)) (Give_of (at 6) (one 7) ∷ []) ∷ [])

pub record SuiteRows : Type 0 where
  pub truth_added : FaultInSuite [] (suite (item (called 10 (codes "p")) (Property_of (Assert_of (at 14) (plus 21 (one 21) (yes 25 ∷ [])) ∷ [])) ∷ [])) (Wrong (at 25))
  pub unknown_name : FaultInSuite [] (suite (item (called 10 (codes "p")) (Property_of (Assert_of (at 14) (lost 21) ∷ [])) ∷ [])) (Unknown (at 21))
  pub unknown_check : FaultInSuite (codes "never" ∷ []) (suite (item (called 7 (codes "nope")) Check_of ∷ [])) (UnknownCheck (at 7))
  pub check_twice : FaultInSuite (codes "never" ∷ []) (suite (item (called 7 (codes "never")) Check_of ∷ item (called 19 (codes "never")) Check_of ∷ [])) (Twice (at 19))
  pub twice_before_unknown : FaultInSuite [] (suite (item (called 1 (codes "nope")) (Property_of []) ∷ item (called 2 (codes "nope")) Check_of ∷ [])) (Twice (at 2))
  pub in_the_first_item : FaultInSuite [] (suite (item (called 1 (codes "nope")) Check_of ∷ item (called 2 (codes "nope")) Check_of ∷ [])) (UnknownCheck (at 1))

-- these are well typed
pub record TypedRows : Type 0 where
  pub never_is_known : IsTyped (codes "never" ∷ []) (suite (item (called 7 (codes "never")) Check_of ∷ []))
  pub a_property_is_no_check : IsTyped [] (suite (item (called 1 (codes "nope")) (Property_of []) ∷ []))
  pub a_property_like_a_check : IsTyped (codes "never" ∷ []) (suite (item (called 1 (codes "never")) (Property_of []) ∷ []))
  pub four_spaces_of_names : IsTyped [] (suite (item (called 0 (codes "m")) (Machine_of (namesakes (codes "m"))) ∷ []))
  pub drawn_by_its_own_name :
      BindAll no_context [] (Draw_of (at 1) (called 2 (codes "x")) (Map_of (at 3) 0 (called 4 (codes "x")) (ints 5) (x 6)) ∷ []) with_x
