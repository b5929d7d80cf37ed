-- What the check of a strategy comes to: the type of its values, or its first fault.
use Rattle.std.specs.Prelude.{ℕ, ◌==◌, Bool, false, ◌||◌, Option, Some, Result, Ok, Err, List, [], ◌∷◌, if◌then◌else◌}
use Rattle.std.specs.List.{list_any}
use Rattle.pt_ast.specs.declared.strat.Alphabet.{Alphabet}
use Rattle.pt_ast.specs.Types.{TypeTree, Int_type, Bool_type, Text_type, Bytes_type, List_type, Tuple_type, TypeTrees, no_type, more_type}
use Rattle.pt_ast.specs.Trees.{ExprTree, place_of, StratTree, Ints_of, Bools_of, Texts_of, Blobs_of, Sampled_of, Lists_of, Tuples_of, OneOf_of, Map_of, Filter_of, FlatMap_of, Recursive_of, Self_of, StratTrees, no_strat, more_strat, strat_place_of}
use Rattle.pt_ast.specs.Names.{Scope, with_name}
use Rattle.pt_typing.specs.Fault.{Fault, Twice, Wrong}
use Rattle.pt_typing.specs.Steps.{after, next_to, giving, made_of, known}
use Rattle.pt_typing.specs.Served.{list_member}
use Rattle.pt_typing.specs.ExprChecks.{needs, takes, free, checked}

-- some character stands there twice
abbrev pub repeats : List ℕ → Bool
repeats [] = false
repeats (first ∷ others) = list_any (λ other. first == other) others || repeats others

-- an alphabet has each character once
abbrev pub once_each : Alphabet → Result (Unit {0}) Fault
once_each alphabet = if repeats alphabet.chars then Err (Twice alphabet.at) else Ok tt

-- the least and the greatest
abbrev pub bounds : Scope → ExprTree → ExprTree → Result (Unit {0}) Fault
bounds scope lo hi = next_to (needs Int_type (place_of lo) (checked scope lo)) (needs Int_type (place_of hi) (checked scope hi))

abbrev mutual
  pub drawn : Scope → Option TypeTree → StratTree → Result TypeTree Fault
  drawn scope self (Ints_of at num lo hi) = giving (bounds scope lo hi) Int_type
  drawn scope self (Bools_of at num) = Ok Bool_type
  drawn scope self (Texts_of at num alphabet lo hi) = next_to (once_each alphabet) (giving (bounds scope lo hi) Text_type)
  drawn scope self (Blobs_of at num lo hi) = giving (bounds scope lo hi) Bytes_type
  drawn scope self (Sampled_of at num list) = takes list_member (place_of list) (checked scope list)
  drawn scope self (Lists_of at num element lo hi) = after (drawn scope self element) (λ member. giving (bounds scope lo hi) (List_type member))
  drawn scope self (Tuples_of at num parts) = made_of Tuple_type (each_drawn scope self parts)
  drawn scope self (OneOf_of at num no_strat) = Err (Wrong at)
  drawn scope self (OneOf_of at num (more_strat first others)) = after (drawn scope self first) (λ type. giving (all_drawn scope self type others) type)
  drawn scope self (Map_of at num given inner body) =
      next_to (free scope given) (after (drawn scope self inner) (λ from. checked (with_name scope given from) body))
  drawn scope self (Filter_of at num given inner cond) = next_to (free scope given) (after (drawn scope self inner)
      (λ type. giving (needs Bool_type (place_of cond) (checked (with_name scope given type) cond)) type))
  drawn scope self (FlatMap_of at num given inner second) =
      next_to (free scope given) (after (drawn scope self inner) (λ from. drawn (with_name scope given from) self second))
  drawn scope self (Recursive_of at num depth first second) =
      after (drawn scope self first) (λ type. giving (needs type (strat_place_of second) (drawn scope (Some type) second)) type)
  drawn scope self (Self_of at num) = known at self

  -- each gives values of the type
  pub all_drawn : Scope → Option TypeTree → TypeTree → StratTrees → Result (Unit {0}) Fault
  all_drawn scope self type no_strat = Ok tt
  all_drawn scope self type (more_strat part parts) = next_to (needs type (strat_place_of part) (drawn scope self part)) (all_drawn scope self type parts)

  -- the types of their values, one by one
  pub each_drawn : Scope → Option TypeTree → StratTrees → Result TypeTrees Fault
  each_drawn scope self no_strat = Ok no_type
  each_drawn scope self (more_strat part parts) = after (drawn scope self part) (λ type. made_of (more_type type) (each_drawn scope self parts))
