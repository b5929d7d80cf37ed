-- How the check of a strategy goes on.
use Rattle.std.proofs.Common.{◌≡◌, ℕ, ◌+◌, ◌<◌, ◌≤◌, Option, Ok, List, [], ◌∷◌, length, drop, get_or, sym, ◌∙◌, ap, arith}
use Rattle.pt_val.specs.declared.place.Place.{Place}
use Rattle.pt_ast.specs.declared.strat.Strat.{Strat}
use Rattle.pt_ast.specs.Types.{TypeTree, Tuple_type, no_type, more_type}
use Rattle.pt_ast.specs.Trees.{OneOf_of}
use Rattle.pt_ast.specs.Plain.{plain_strat, plain_strats}
use Rattle.pt_ast.specs.Names.{Scope}
use Rattle.pt_typing.specs.Steps.{after, giving, made_of}
use Rattle.pt_typing.specs.StratChecks.{drawn, all_drawn, each_drawn}
use Rattle.pt_check.proofs.Tuples.{gather}
use Rattle.pt_check.proofs.Turns.{first-left, none-left, made-more}

pub strat-turn : (scope : Scope) (self : Option TypeTree) (found : List TypeTree) (parts : List Strat) (index : ℕ) (part : Strat) (type : TypeTree) → index < length parts →
    part ≡ get_or parts index part → drawn scope self (plain_strat part) ≡ Ok type →
    made_of (gather found) (each_drawn scope self (plain_strats (drop index parts))) ≡ made_of (gather (type ∷ found)) (each_drawn scope self (plain_strats (drop (index + 1) parts)))
strat-turn scope self found parts index part type within is typed =
    let rest = each_drawn scope self (plain_strats (drop (index + 1) parts)) in
    ap (λ ps. made_of (gather found) (each_drawn scope self (plain_strats ps))) (first-left parts index part within is)
    ∙ ap (λ check. made_of (gather found) (after check (λ t. made_of (more_type t) rest))) typed ∙ made-more found type rest

pub strats-done : (scope : Scope) (self : Option TypeTree) (found : List TypeTree) (parts : List Strat) (index : ℕ) → length parts ≤ index →
    made_of Tuple_type (made_of (gather found) (each_drawn scope self (plain_strats (drop index parts)))) ≡ Ok (Tuple_type (gather found no_type))
strats-done scope self found parts index done = ap (λ ps. made_of Tuple_type (made_of (gather found) (each_drawn scope self (plain_strats ps)))) (none-left parts index done)

pub choice-begins : (scope : Scope) (self : Option TypeTree) (at : Place) (num : ℕ) (parts : List Strat) (first : Strat) → 0 < length parts → first ≡ get_or parts 0 first →
    drawn scope self (OneOf_of at num (plain_strats parts)) ≡ after (drawn scope self (plain_strat first)) (λ type. giving (all_drawn scope self type (plain_strats (drop 1 parts))) type)
choice-begins scope self at num [] first some is = absurd (omega (arith, some))
choice-begins scope self at num (one ∷ others) first some is =
    ap (λ s. after (drawn scope self (plain_strat s)) (λ type. giving (all_drawn scope self type (plain_strats others)) type)) (sym is)
