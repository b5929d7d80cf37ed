-- How many nodes are numbered in lists that grow.
use Rattle.std.proofs.Common.{◌≡◌, ◌+◌, List, [], ◌∷◌, ◌++◌, map, length, arith, length-append}
use Rattle.std.specs.List.{flat_map}
use Rattle.pt_ast.specs.declared.strat.Strat.{Strat}
use Rattle.pt_ast.specs.Numbers.{strat_numbers, strats_numbers}
use Rattle.pt_ast.specs.Plain.{plain_strat, plain_strats}
use Rattle.pt_grammar.specs.StratGrammar.{nodes}

pub strats_more : (parts : List Strat) (part : Strat) → length (strats_numbers (plain_strats (parts ++ part ∷ []))) ≡ length (strats_numbers (plain_strats parts)) + nodes (plain_strat part)
strats_more [] part = omega (arith, length-append (strat_numbers (plain_strat part)) [])
strats_more (first ∷ others) part = omega (
  arith,
  strats_more others part,
  length-append (strat_numbers (plain_strat first)) (strats_numbers (plain_strats others)),
  length-append (strat_numbers (plain_strat first)) (strats_numbers (plain_strats (others ++ part ∷ []))),
)

pub numbers_more : {A B C : Type 0} (numbers : B → List C) (plain : A → B) (list : List A) (one : A)
    → length (flat_map numbers (map plain (list ++ one ∷ []))) ≡ length (flat_map numbers (map plain list)) + length (numbers (plain one))
numbers_more numbers plain [] one = omega (arith, length-append (numbers (plain one)) [])
numbers_more numbers plain (first ∷ others) one = omega (
  arith,
  numbers_more numbers plain others one,
  length-append (numbers (plain first)) (flat_map numbers (map plain others)),
  length-append (numbers (plain first)) (flat_map numbers (map plain (others ++ one ∷ []))),
)
