-- What the check of an expression comes to.
use Rattle.std.proofs.Common.{◌≡◌, Result, List, [], ◌∷◌, refl, sym, subst}
use Rattle.pt_val.specs.declared.place.Place.{Place}
use Rattle.pt_ast.specs.declared.expr.Func.{Func}
use Rattle.pt_ast.specs.declared.expr.Func.TheVariants.{Len}
use Rattle.pt_ast.specs.declared.ident.Ident.{Ident}
use Rattle.pt_ast.specs.Types.{TypeTree, Int_type, Bool_type, Text_type, Bytes_type, List_type, Tuple_type, TypeTrees, no_type, more_type, types_in}
use Rattle.pt_ast.specs.Trees.{ExprTree, Num, Text_of, Bytes_of, Flag, Var, If_of, Or_of, And_of, Not_of, Compare_of, Sum_of, Prod_of, Neg_of, Post_of, Call_of, Bind_of, Bracket_of, Tuple_of, List_of, ExprTrees, no_expr, more_expr, tail_of, TailTrees, no_tail, more_tail, index_of, part_of, PostTrees, no_post, more_post, place_of}
use Rattle.pt_ast.specs.Names.{Scope, type_in, IsFree, with_name}
use Rattle.pt_ast.specs.Typing.{Compares, Takes, Yields, HasType, HaveType, HaveTypes, AreNumbers, Reaches}
use Rattle.pt_typing.specs.Fault.{Fault, Wrong}
use Rattle.pt_typing.specs.Served.{list_member, index_member, tuple_types, part_at, left_side, bound_type}
use Rattle.pt_typing.specs.Serving.{IsList, ServesBinder}
use Rattle.pt_typing.specs.ExprChecks.{takes, free, checked, all_of, each_of, numbers, reached}
use Rattle.pt_typing.specs.ExprFaults.{Misfits, IsTaken, FaultIn, FaultAmong, FaultInEach, FaultInTails, FaultBehind}
use Rattle.pt_typing.specs.Laws.{IsCheck}
use Rattle.pt_typing.proofs.Steps.{means, ok-check, err-check, after-check, next-check, giving-check, made-check, known-check, vacant-check, right-check}
use Rattle.pt_typing.proofs.Serving.{takes-check, needs-check, list-finds, index-finds, tuple-finds, part-finds, side-finds, bound-finds, call_alone-check, call_both-check}

pub free-check : (scope : Scope) (given : Ident) → IsCheck (λ _. IsFree scope given) (IsTaken scope given) (free scope given)
free-check scope given = vacant-check given.at (type_in given.name scope)

-- a part that is a list
pub list-check : {Have : TypeTree → Type 0} {Faulty : Fault → Type 0} {check : Result TypeTree Fault} (at : Place) → IsCheck Have Faulty check →
    IsCheck (λ member. Have (List_type member)) (Misfits Have Faulty at IsList) (takes list_member at check)
list-check {Have = Have} at given =
    means (takes-check IsList (λ found member. found ≡ List_type member) list_member at given list-finds (λ found is. is) (λ found member is. (member, is)))
    (λ member so. subst Have so.2 so.1) (λ member have. (List_type member, have, refl))

-- the types of parts, one by one
none-typed : (scope : Scope) (types : TypeTrees) → HaveTypes scope no_expr types → types ≡ no_type
none-typed scope no_type have = refl
none-typed scope (more_type type types) have = absurd have

more-typed : (scope : Scope) (part : ExprTree) (parts : ExprTrees) (types : TypeTrees) → HaveTypes scope (more_expr part parts) types →
    (type : TypeTree) × HasType scope part type × ((rest : TypeTrees) × HaveTypes scope parts rest × (types ≡ more_type type rest))
more-typed scope part parts no_type have = absurd have
more-typed scope part parts (more_type type types) have = (type, have.0, (types, have.1, refl))

-- what a function takes has one part or two
none-taken : (func : Func) (type : TypeTree) → ¬ Takes func [] type
none-taken Len type so = absurd so
none-taken _ type so = absurd so

many-taken : (func : Func) (first second third : TypeTree) (others : List TypeTree) (type : TypeTree) → ¬ Takes func (first ∷ second ∷ third ∷ others) type
many-taken Len first second third others type so = absurd so
many-taken _ first second third others type so = absurd so

no-call : (scope : Scope) (func : Func) (type : TypeTree) (types : TypeTrees) → HaveTypes scope no_expr types → ¬ Takes func (types_in types) type
no-call scope func type no_type have so = none-taken func type so
no-call scope func type (more_type first types) have so = absurd have

one-typed : (scope : Scope) (only : ExprTree) (func : Func) (type : TypeTree) (types : TypeTrees) → HaveTypes scope (more_expr only no_expr) types → Takes func (types_in types) type →
    (found : TypeTree) × HasType scope only found × Takes func (found ∷ []) type
one-typed scope only func type no_type have so = absurd have
one-typed scope only func type (more_type found no_type) have so = (found, have.0, so)
one-typed scope only func type (more_type found (more_type second types)) have so = absurd have.1

two-typed : (scope : Scope) (one two : ExprTree) (func : Func) (type : TypeTree) (types : TypeTrees) → HaveTypes scope (more_expr one (more_expr two no_expr)) types → Takes func (types_in types) type →
    (first : TypeTree) × (second : TypeTree) × HasType scope one first × HasType scope two second × Takes func (first ∷ second ∷ []) type
two-typed scope one two func type no_type have so = absurd have
two-typed scope one two func type (more_type first no_type) have so = absurd have.1
two-typed scope one two func type (more_type first (more_type second no_type)) have so = (first, second, have.0, have.1.0, so)
two-typed scope one two func type (more_type first (more_type second (more_type third types))) have so = absurd have.1.1

many-call : (scope : Scope) (one two three : ExprTree) (others : ExprTrees) (func : Func) (type : TypeTree) (types : TypeTrees) →
    HaveTypes scope (more_expr one (more_expr two (more_expr three others))) types → ¬ Takes func (types_in types) type
many-call scope one two three others func type no_type have so = absurd have
many-call scope one two three others func type (more_type first no_type) have so = absurd have.1
many-call scope one two three others func type (more_type first (more_type second no_type)) have so = absurd have.1.1
many-call scope one two three others func type (more_type first (more_type second (more_type third types))) have so = many-taken func first second third (types_in types) type so

mutual
  pub expr-check : (tree : ExprTree) (scope : Scope) → IsCheck (HasType scope tree) (FaultIn scope tree) (checked scope tree)
  expr-check (Num at number) scope = ok-check Int_type
  expr-check (Text_of at chars) scope = ok-check Text_type
  expr-check (Bytes_of at bytes) scope = ok-check Bytes_type
  expr-check (Flag at truth) scope = ok-check Bool_type
  expr-check (Var at name) scope = known-check at (type_in name scope)
  expr-check (If_of at test first other) scope =
      means (next-check (needs-check Bool_type (place_of test) (expr-check test scope))
      (λ test_is. after-check (expr-check first scope) (λ type first_is. giving-check type (needs-check type (place_of other) (expr-check other scope)))))
      (λ type is. (is.0, subst (λ t. HasType scope first t) (sym is.1.2.1) is.1.1, subst (λ t. HasType scope other t) (sym is.1.2.1) is.1.2.0))
      (λ type is. (is.0, (type, is.1, (is.2, refl))))
  expr-check (Or_of at parts) scope = giving-check Bool_type (all-check parts scope Bool_type)
  expr-check (And_of at parts) scope = giving-check Bool_type (all-check parts scope Bool_type)
  expr-check (Not_of at part) scope = giving-check Bool_type (needs-check Bool_type (place_of part) (expr-check part scope))
  expr-check (Compare_of at left op other) scope =
      means (after-check (means (takes-check (Compares op) (λ side v. Compares op side × (v ≡ side)) (left_side op) (place_of left) (expr-check left scope) (side-finds op)
      (λ side fits. (side, (fits, refl))) (λ side v fits. fits.0))
      (λ side so. (subst (λ t. HasType scope left t) (sym so.2.1) so.1, subst (Compares op) (sym so.2.1) so.2.0)) (λ side so. (side, so.0, (so.1, refl))))
      (λ side left_is. giving-check Bool_type (needs-check side (place_of other) (expr-check other scope))))
      (λ type is. (is.0, is.1.0, is.2.0, is.1.1, is.2.1))
      (λ type is. (is.0, (is.1, is.3), (is.2, is.4)))
  expr-check (Sum_of at first tails) scope =
      means (next-check (needs-check Int_type (place_of first) (expr-check first scope)) (λ first_is. giving-check Int_type (tails-check tails scope)))
      (λ type is. (is.0, is.1.0, is.1.1)) (λ type is. (is.0, (is.1, is.2)))
  expr-check (Prod_of at first tails) scope =
      means (next-check (needs-check Int_type (place_of first) (expr-check first scope)) (λ first_is. giving-check Int_type (tails-check tails scope)))
      (λ type is. (is.0, is.1.0, is.1.1)) (λ type is. (is.0, (is.1, is.2)))
  expr-check (Neg_of at part) scope = giving-check Int_type (needs-check Int_type (place_of part) (expr-check part scope))
  expr-check (Post_of at base posts) scope = after-check (expr-check base scope) (λ from base_is. reached-check posts scope (place_of base) from)
  expr-check (Call_of at func no_expr) scope = means (err-check (Wrong at)) (λ type no. absurd no) (λ type so. absurd (no-call scope func type so.0 so.1 so.2))
  expr-check (Call_of at func (more_expr only no_expr)) scope =
      means (call_alone-check func at (place_of only) (expr-check only scope))
      (λ type so. (more_type so.0 no_type, (so.1, tt), so.2)) (λ type so. one-typed scope only func type so.0 so.1 so.2)
  expr-check (Call_of at func (more_expr first (more_expr second no_expr))) scope =
      means (call_both-check func at (place_of first) (place_of second) (expr-check first scope) (expr-check second scope))
      (λ type so. (more_type so.0 (more_type so.1 no_type), (so.2, (so.3, tt)), so.4)) (λ type so. two-typed scope first second func type so.0 so.1 so.2)
  expr-check (Call_of at func (more_expr first (more_expr second (more_expr third others)))) scope =
      means (err-check (Wrong at)) (λ type no. absurd no) (λ type so. absurd (many-call scope first second third others func type so.0 so.1 so.2))
  expr-check (Bind_of at binder given list body) scope =
      means (next-check (free-check scope given) (λ free_is. after-check (list-check (place_of list) (expr-check list scope))
      (λ member list_is. takes-check (ServesBinder binder) (Yields binder) (bound_type binder) (place_of body) (expr-check body (with_name scope given member)) (bound-finds binder)
      (λ item is. is) (λ item type is. (type, is)))))
      (λ type is. (is.1.0, is.1.2.0, is.0, is.1.1, is.1.2.1, is.1.2.2))
      (λ type is. (is.2, (is.0, is.3, (is.1, is.4, is.5))))
  expr-check (Bracket_of at part) scope = expr-check part scope
  expr-check (Tuple_of at parts) scope = made-check Tuple_type (each-check parts scope)
  expr-check (List_of at no_expr) scope = err-check (Wrong at)
  expr-check (List_of at (more_expr first others)) scope =
      means (after-check (expr-check first scope) (λ member first_is. giving-check (List_type member) (all-check others scope member)))
      (λ type is. (is.0, is.1, is.2.0, is.2.1)) (λ type is. (is.0, is.1, (is.2, is.3)))

  pub all-check : (parts : ExprTrees) (scope : Scope) (type : TypeTree) → IsCheck (λ _. HaveType scope parts type) (FaultAmong scope type parts) (all_of scope type parts)
  all-check no_expr scope type = means (ok-check tt) (λ v is. tt) (λ v is. refl)
  all-check (more_expr part parts) scope type = next-check (needs-check type (place_of part) (expr-check part scope)) (λ part_is. all-check parts scope type)

  pub each-check : (parts : ExprTrees) (scope : Scope) → IsCheck (HaveTypes scope parts) (FaultInEach scope parts) (each_of scope parts)
  each-check no_expr scope = means (ok-check no_type) (λ types is. subst (HaveTypes scope no_expr) (sym is) tt) (none-typed scope)
  each-check (more_expr part parts) scope =
      means (after-check (expr-check part scope) (λ type part_is. made-check (more_type type) (each-check parts scope)))
      (λ types is. subst (HaveTypes scope (more_expr part parts)) (sym is.2.2) (is.1, is.2.1)) (more-typed scope part parts)

  pub tails-check : (tails : TailTrees) (scope : Scope) → IsCheck (λ _. AreNumbers scope tails) (FaultInTails scope tails) (numbers scope tails)
  tails-check no_tail scope = means (ok-check tt) (λ v is. tt) (λ v is. refl)
  tails-check (more_tail (tail_of at op part) tails) scope = next-check (needs-check Int_type (place_of part) (expr-check part scope)) (λ part_is. tails-check tails scope)

  pub reached-check : (posts : PostTrees) (scope : Scope) (at : Place) (from : TypeTree) → IsCheck (Reaches scope from posts) (FaultBehind scope at from posts) (reached scope at from posts)
  reached-check no_post scope at from = ok-check from
  reached-check (more_post (index_of place index) posts) scope at from =
      means (after-check (right-check at (index_member from) (index-finds from))
      (λ member from_is. next-check (needs-check Int_type (place_of index) (expr-check index scope)) (λ index_is. reached-check posts scope at member)))
      (λ type is. (is.0, is.1, is.2.0, is.2.1)) (λ type is. (is.0, is.1, (is.2, is.3)))
  reached-check (more_post (part_of place part) posts) scope at from =
      means (after-check (right-check at (tuple_types from) (tuple-finds from))
      (λ types from_is. after-check (right-check place (part_at part types) (part-finds part types)) (λ member part_is. reached-check posts scope at member)))
      (λ type is. (is.0, is.2.0, is.1, is.2.1, is.2.2)) (λ type is. (is.0, is.2, (is.1, is.3, is.4)))
