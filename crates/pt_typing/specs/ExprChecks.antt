-- What the check of an expression comes to: its type, or its first fault.
use Rattle.std.specs.Prelude.{Option, Result, Ok, Err, if◌then◌else◌}
use Rattle.pt_val.specs.declared.place.Place.{Place}
use Rattle.pt_ast.specs.declared.expr.Func.{Func}
use Rattle.pt_ast.specs.declared.ident.Ident.{Ident}
use Rattle.pt_ast.specs.Types.{TypeTree, Int_type, Bool_type, Text_type, Bytes_type, List_type, Tuple_type, TypeTrees, no_type, more_type}
use Rattle.pt_ast.specs.Trees.{ExprTree, Num, Text_of, Bytes_of, Flag, Var, If_of, Or_of, And_of, Not_of, Compare_of, Sum_of, Prod_of, Neg_of, Post_of, Call_of, Bind_of, Bracket_of, Tuple_of, List_of, ExprTrees, no_expr, more_expr, tail_of, TailTrees, no_tail, more_tail, index_of, part_of, PostTrees, no_post, more_post, place_of}
use Rattle.pt_ast.specs.Names.{Scope, type_in, with_name}
use Rattle.pt_typing.specs.Fault.{Fault, Wrong}
use Rattle.pt_typing.specs.Steps.{after, next_to, giving, made_of, known, vacant, right}
use Rattle.pt_typing.specs.Served.{if_same, list_member, index_member, tuple_types, part_at, left_side, bound_type, takes_one, given_alone, second_needed, given_both}

-- a part of the type that is needed
abbrev pub needs : TypeTree → Place → Result TypeTree Fault → Result (Unit {0}) Fault
needs type at check = after check (λ found. right at (if_same found type tt))

-- what is taken of a part
abbrev pub takes : {A : Type 0} → (TypeTree → Option A) → Place → Result TypeTree Fault → Result A Fault
takes take at check = after check (λ found. right at (take found))

-- a name that may be given
abbrev pub free : Scope → Ident → Result (Unit {0}) Fault
free scope given = vacant given.at (type_in given.name scope)

-- a call with one value
abbrev pub call_alone : Func → Place → Place → Result TypeTree Fault → Result TypeTree Fault
call_alone func at only_at only = if takes_one func then takes (given_alone func) only_at only else Err (Wrong at)

-- a call with two
abbrev pub call_both : Func → Place → Place → Result TypeTree Fault → Place → Result TypeTree Fault → Result TypeTree Fault
call_both func at first_at first second_at second = if takes_one func then Err (Wrong at)
    else after (takes (second_needed func) first_at first) (λ needed. giving (needs needed second_at second) (given_both func needed))

abbrev mutual
  pub checked : Scope → ExprTree → Result TypeTree Fault
  checked scope (Num at number) = Ok Int_type
  checked scope (Text_of at chars) = Ok Text_type
  checked scope (Bytes_of at bytes) = Ok Bytes_type
  checked scope (Flag at truth) = Ok Bool_type
  checked scope (Var at name) = known at (type_in name scope)
  checked scope (If_of at test first other) =
      next_to (needs Bool_type (place_of test) (checked scope test)) (after (checked scope first) (λ type. giving (needs type (place_of other) (checked scope other)) type))
  checked scope (Or_of at parts) = giving (all_of scope Bool_type parts) Bool_type
  checked scope (And_of at parts) = giving (all_of scope Bool_type parts) Bool_type
  checked scope (Not_of at part) = giving (needs Bool_type (place_of part) (checked scope part)) Bool_type
  checked scope (Compare_of at left op other) =
      after (takes (left_side op) (place_of left) (checked scope left)) (λ side. giving (needs side (place_of other) (checked scope other)) Bool_type)
  checked scope (Sum_of at first tails) = next_to (needs Int_type (place_of first) (checked scope first)) (giving (numbers scope tails) Int_type)
  checked scope (Prod_of at first tails) = next_to (needs Int_type (place_of first) (checked scope first)) (giving (numbers scope tails) Int_type)
  checked scope (Neg_of at part) = giving (needs Int_type (place_of part) (checked scope part)) Int_type
  checked scope (Post_of at base posts) = after (checked scope base) (λ from. reached scope (place_of base) from posts)
  checked scope (Call_of at func no_expr) = Err (Wrong at)
  checked scope (Call_of at func (more_expr only no_expr)) = call_alone func at (place_of only) (checked scope only)
  checked scope (Call_of at func (more_expr first (more_expr second no_expr))) =
      call_both func at (place_of first) (checked scope first) (place_of second) (checked scope second)
  checked scope (Call_of at func (more_expr first (more_expr second (more_expr third others)))) = Err (Wrong at)
  checked scope (Bind_of at binder given list body) = next_to (free scope given) (after (takes list_member (place_of list) (checked scope list))
      (λ member. takes (bound_type binder) (place_of body) (checked (with_name scope given member) body)))
  checked scope (Bracket_of at part) = checked scope part
  checked scope (Tuple_of at parts) = made_of Tuple_type (each_of scope parts)
  checked scope (List_of at no_expr) = Err (Wrong at)
  checked scope (List_of at (more_expr first others)) = after (checked scope first) (λ member. giving (all_of scope member others) (List_type member))

  -- each is of the type
  pub all_of : Scope → TypeTree → ExprTrees → Result (Unit {0}) Fault
  all_of scope type no_expr = Ok tt
  all_of scope type (more_expr part parts) = next_to (needs type (place_of part) (checked scope part)) (all_of scope type parts)

  -- their types, one by one
  pub each_of : Scope → ExprTrees → Result TypeTrees Fault
  each_of scope no_expr = Ok no_type
  each_of scope (more_expr part parts) = after (checked scope part) (λ type. made_of (more_type type) (each_of scope parts))

  -- what stands on the right of the operators is numbers
  pub numbers : Scope → TailTrees → Result (Unit {0}) Fault
  numbers scope no_tail = Ok tt
  numbers scope (more_tail (tail_of at op part) tails) = next_to (needs Int_type (place_of part) (checked scope part)) (numbers scope tails)

  -- what the indexes and parts lead to, from a value of this type that begins here
  pub reached : Scope → Place → TypeTree → PostTrees → Result TypeTree Fault
  reached scope at from no_post = Ok from
  reached scope at from (more_post (index_of place index) posts) = after (right at (index_member from))
      (λ member. next_to (needs Int_type (place_of index) (checked scope index)) (reached scope at member posts))
  reached scope at from (more_post (part_of place part) posts) = after (right at (tuple_types from))
      (λ types. after (right place (part_at part types)) (λ member. reached scope at member posts))
