-- What the check of a strategy comes to.
use Rattle.std.proofs.Common.{◌≡◌, Option, Some, refl, sym, subst}
use Rattle.pt_ast.specs.Types.{TypeTree, Int_type, Bool_type, Text_type, Bytes_type, List_type, Tuple_type, TypeTrees, no_type, more_type}
use Rattle.pt_ast.specs.Trees.{ExprTree, place_of, StratTree, Ints_of, Bools_of, Texts_of, Blobs_of, Sampled_of, Lists_of, Tuples_of, OneOf_of, Map_of, Filter_of, FlatMap_of, Recursive_of, Self_of, StratTrees, no_strat, more_strat, strat_place_of}
use Rattle.pt_ast.specs.Names.{Scope, with_name}
use Rattle.pt_ast.specs.Typing.{HasType, Draws, AllDraw, DrawEach}
use Rattle.pt_typing.specs.Fault.{Wrong}
use Rattle.pt_typing.specs.StratChecks.{bounds, drawn, all_drawn, each_drawn}
use Rattle.pt_typing.specs.StratFaults.{FaultInBounds, FaultInStrat, FaultAmongStrats, FaultInEachStrat}
use Rattle.pt_typing.specs.Laws.{IsCheck}
use Rattle.pt_typing.proofs.Steps.{means, ok-check, err-check, after-check, next-check, giving-check, made-check, known-check}
use Rattle.pt_typing.proofs.Serving.{needs-check}
use Rattle.pt_typing.proofs.Exprs.{free-check, list-check, expr-check}
use Rattle.pt_typing.proofs.Names.{once_each-check}

bounds-check : (scope : Scope) (lo hi : ExprTree) → IsCheck (λ _. HasType scope lo Int_type × HasType scope hi Int_type) (FaultInBounds scope lo hi) (bounds scope lo hi)
bounds-check scope lo hi =
    next-check (needs-check Int_type (place_of lo) (expr-check lo scope)) (λ lo_is. needs-check Int_type (place_of hi) (expr-check hi scope))

none-drawn : (scope : Scope) (self : Option TypeTree) (types : TypeTrees) → DrawEach scope self no_strat types → types ≡ no_type
none-drawn scope self no_type draw = refl
none-drawn scope self (more_type type types) draw = absurd draw

more-drawn : (scope : Scope) (self : Option TypeTree) (part : StratTree) (parts : StratTrees) (types : TypeTrees) → DrawEach scope self (more_strat part parts) types →
    (type : TypeTree) × Draws scope self part type × ((rest : TypeTrees) × DrawEach scope self parts rest × (types ≡ more_type type rest))
more-drawn scope self part parts no_type draw = absurd draw
more-drawn scope self part parts (more_type type types) draw = (type, draw.0, (types, draw.1, refl))

mutual
  pub strat-check : (tree : StratTree) (scope : Scope) (self : Option TypeTree) → IsCheck (Draws scope self tree) (FaultInStrat scope self tree) (drawn scope self tree)
  strat-check (Ints_of at num lo hi) scope self =
      means (giving-check Int_type (bounds-check scope lo hi)) (λ type is. (is.0.0, is.0.1, is.1)) (λ type is. ((is.0, is.1), is.2))
  strat-check (Bools_of at num) scope self = ok-check Bool_type
  strat-check (Texts_of at num alphabet lo hi) scope self =
      means (next-check (once_each-check alphabet) (λ once. giving-check Text_type (bounds-check scope lo hi)))
      (λ type is. (is.0, is.1.0.0, is.1.0.1, is.1.1)) (λ type is. (is.0, ((is.1, is.2), is.3)))
  strat-check (Blobs_of at num lo hi) scope self =
      means (giving-check Bytes_type (bounds-check scope lo hi)) (λ type is. (is.0.0, is.0.1, is.1)) (λ type is. ((is.0, is.1), is.2))
  strat-check (Sampled_of at num list) scope self = list-check (place_of list) (expr-check list scope)
  strat-check (Lists_of at num element lo hi) scope self =
      means (after-check (strat-check element scope self) (λ member element_is. giving-check (List_type member) (bounds-check scope lo hi)))
      (λ type is. (is.0, is.1, is.2.0.0, is.2.0.1, is.2.1)) (λ type is. (is.0, is.1, ((is.2, is.3), is.4)))
  strat-check (Tuples_of at num parts) scope self = made-check Tuple_type (each_strat-check parts scope self)
  strat-check (OneOf_of at num no_strat) scope self = err-check (Wrong at)
  strat-check (OneOf_of at num (more_strat first others)) scope self =
      means (after-check (strat-check first scope self) (λ type first_is. giving-check type (all_strat-check others scope self type)))
      (λ type is. (subst (λ t. Draws scope self first t) (sym is.2.1) is.1, subst (λ t. AllDraw scope self others t) (sym is.2.1) is.2.0))
      (λ type is. (type, is.0, (is.1, refl)))
  strat-check (Map_of at num given inner body) scope self =
      means (next-check (free-check scope given) (λ free. after-check (strat-check inner scope self) (λ from inner_is. expr-check body (with_name scope given from))))
      (λ type is. (is.1.0, is.0, is.1.1, is.1.2)) (λ type is. (is.1, (is.0, is.2, is.3)))
  strat-check (Filter_of at num given inner cond) scope self =
      means (next-check (free-check scope given) (λ free. after-check (strat-check inner scope self)
      (λ type inner_is. giving-check type (needs-check Bool_type (place_of cond) (expr-check cond (with_name scope given type))))))
      (λ type is. (is.0, subst (λ t. Draws scope self inner t) (sym is.1.2.1) is.1.1, subst (λ t. HasType (with_name scope given t) cond Bool_type) (sym is.1.2.1) is.1.2.0))
      (λ type is. (is.0, (type, is.1, (is.2, refl))))
  strat-check (FlatMap_of at num given inner second) scope self =
      means (next-check (free-check scope given) (λ free. after-check (strat-check inner scope self) (λ from inner_is. strat-check second (with_name scope given from) self)))
      (λ type is. (is.1.0, is.0, is.1.1, is.1.2)) (λ type is. (is.1, (is.0, is.2, is.3)))
  strat-check (Recursive_of at num depth first second) scope self =
      means (after-check (strat-check first scope self) (λ type first_is. giving-check type (needs-check type (strat_place_of second) (strat-check second scope (Some type)))))
      (λ type is. (subst (λ t. Draws scope self first t) (sym is.2.1) is.1, subst (λ t. Draws scope (Some t) second t) (sym is.2.1) is.2.0))
      (λ type is. (type, is.0, (is.1, refl)))
  strat-check (Self_of at num) scope self = known-check at self

  all_strat-check : (parts : StratTrees) (scope : Scope) (self : Option TypeTree) (type : TypeTree) →
      IsCheck (λ _. AllDraw scope self parts type) (FaultAmongStrats scope self type parts) (all_drawn scope self type parts)
  all_strat-check no_strat scope self type = means (ok-check tt) (λ v is. tt) (λ v is. refl)
  all_strat-check (more_strat part parts) scope self type =
      next-check (needs-check type (strat_place_of part) (strat-check part scope self)) (λ part_is. all_strat-check parts scope self type)

  each_strat-check : (parts : StratTrees) (scope : Scope) (self : Option TypeTree) → IsCheck (DrawEach scope self parts) (FaultInEachStrat scope self parts) (each_drawn scope self parts)
  each_strat-check no_strat scope self = means (ok-check no_type) (λ types is. subst (DrawEach scope self no_strat) (sym is) tt) (none-drawn scope self)
  each_strat-check (more_strat part parts) scope self =
      means (after-check (strat-check part scope self) (λ type part_is. made-check (more_type type) (each_strat-check parts scope self)))
      (λ types is. subst (DrawEach scope self (more_strat part parts)) (sym is.2.2) (is.1, is.2.1)) (more-drawn scope self part parts)
