-- The values of expressions, and what they cost.
use Rattle.std.specs.Prelude.{ℕ, ◌+◌, ℤ, neg_ℤ, nat_lt, not, Bool, true, false, Result, Ok, List, [], ◌∷◌, if◌then◌else◌}
use Rattle.std.proofs.Math.Bool.{beq}
use Rattle.pt_val.specs.declared.val.Val.{Val}
use Rattle.pt_val.specs.declared.val.Val.TheVariants as val
use Rattle.pt_case.specs.declared.ending.What.TheVariants.{Cost}
use Rattle.pt_case.specs.declared.ending.Origin.{Origin}
use Rattle.pt_ast.specs.declared.binding.Binding.{Binding}
use Rattle.pt_ast.specs.declared.expr.Binder.{Binder}
use Rattle.pt_ast.specs.declared.expr.Binder.TheVariants.{All, Any, Each}
use Rattle.pt_ast.specs.Trees.{ExprTree, Num, Text_of, Bytes_of, Flag, Var, If_of, Or_of, And_of, Not_of, Compare_of, Sum_of, Prod_of, Neg_of, Post_of, Call_of, Bind_of, Bracket_of, Tuple_of, List_of, ExprTrees, no_expr, more_expr, TailTree, tail_of, TailTrees, no_tail, more_tail, PostTree, index_of, part_of, PostTrees, no_post, more_post, place_of}
use Rattle.pt_eval.specs.Env.{value_in}
use Rattle.pt_eval.specs.Parts.{or_zero, number_of, truth_of, members_of}
use Rattle.pt_eval.specs.Steps.{fault, after, costs_after, counted, in_range, applied, compared, indexed, part_at, each_gives, each_costs, seek_gives, seek_costs}
use Rattle.pt_eval.specs.Calls.{call_value}

-- what a binder makes of a list: whether all members or any pass, or the list of what is made of each
abbrev pub bind_value : Binder → (List Binding → Result Val Origin) → List ℕ → List Binding → List Val → Result Val Origin
bind_value All body name env members = seek_gives false body name env members
bind_value Any body name env members = seek_gives true body name env members
bind_value Each body name env members = after (each_gives body name env members) (λ values. Ok (val.List values))

abbrev pub bind_cost : Binder → (List Binding → Result Val Origin) → (List Binding → ℕ) → List ℕ → List Binding → List Val → ℕ
bind_cost All body cost name env members = seek_costs false body cost name env members
bind_cost Any body cost name env members = seek_costs true body cost name env members
bind_cost Each body cost name env members = each_costs body cost name env members

abbrev mutual
  -- the value of an expression where these names have these values, or its first fault
  pub value_of : ExprTree → List Binding → Result Val Origin
  value_of (Num at number) env = Ok (val.Int number)
  value_of (Text_of at chars) env = Ok (val.Text chars)
  value_of (Bytes_of at bytes) env = Ok (val.Bytes bytes)
  value_of (Flag at truth) env = Ok (val.Bool truth)
  value_of (Var at name) env = Ok (or_zero (value_in name env))
  value_of (If_of at test first other) env = after (value_of test env) (λ truth. if truth_of truth then value_of first env else value_of other env)
  value_of (Or_of at parts) env = sought_value true parts env
  value_of (And_of at parts) env = sought_value false parts env
  value_of (Not_of at part) env = after (value_of part env) (λ truth. Ok (val.Bool (not (truth_of truth))))
  value_of (Compare_of at left op right) env =
      after (value_of left env) (λ x. after (value_of right env) (λ y. Ok (val.Bool (compared op x y))))
  value_of (Sum_of at first tails) env = after (value_of first env) (chain_value tails env)
  value_of (Prod_of at first tails) env = after (value_of first env) (chain_value tails env)
  value_of (Neg_of at part) env = after (value_of part env) (λ x. in_range at (neg_ℤ (number_of x)))
  value_of (Post_of at base posts) env = after (value_of base env) (posts_value posts env)
  value_of (Call_of at func parts) env = after (values_of parts env) (call_value func at)
  value_of (Bind_of at binder given list body) env =
      after (value_of list env) (λ members. bind_value binder (value_of body) given.name env (members_of members))
  value_of (Bracket_of at part) env = value_of part env
  value_of (Tuple_of at parts) env = after (values_of parts env) (λ values. Ok (val.Tuple values))
  value_of (List_of at parts) env = after (values_of parts env) (λ values. Ok (val.List values))

  -- the values of expressions in order
  pub values_of : ExprTrees → List Binding → Result (List Val) Origin
  values_of no_expr env = Ok []
  values_of (more_expr part parts) env = after (value_of part env) (λ value. after (values_of parts env) (λ values. Ok (value ∷ values)))

  -- the truth value that is sought, where a part has it, and the parts behind that one are not looked at; or else the other one
  pub sought_value : Bool → ExprTrees → List Binding → Result Val Origin
  sought_value sought no_expr env = Ok (val.Bool (not sought))
  sought_value sought (more_expr part parts) env =
      after (value_of part env) (λ truth. if beq (truth_of truth) sought then Ok (val.Bool sought) else sought_value sought parts env)

  -- what an operator makes of the value on its left
  pub tail_value : TailTree → List Binding → Val → Result Val Origin
  tail_value (tail_of at op right) env left = after (value_of right env) (λ y. applied op at (number_of left) (number_of y))

  -- a chain from left to right
  pub chain_value : TailTrees → List Binding → Val → Result Val Origin
  chain_value no_tail env left = Ok left
  chain_value (more_tail tail tails) env left = after (tail_value tail env left) (chain_value tails env)

  -- the item at an index, or a part
  pub post_value : PostTree → List Binding → Val → Result Val Origin
  post_value (index_of at index) env base = after (value_of index env) (λ place. indexed at base (number_of place))
  post_value (part_of at part) env base = Ok (part_at base part)

  -- indexes and parts from left to right
  pub posts_value : PostTrees → List Binding → Val → Result Val Origin
  posts_value no_post env base = Ok base
  posts_value (more_post post posts) env base = after (post_value post env base) (posts_value posts env)

-- what a right side of `or` or `and` counts when it is begun
abbrev pub begun : ExprTrees → ℕ
begun no_expr = 0
begun (more_expr part parts) = 2

abbrev mutual
  -- what an expression costs: what its parts cost, and what it counts of its own
  pub cost_of : ExprTree → List Binding → ℕ
  cost_of (Num at number) env = counted (value_of (Num at number) env)
  cost_of (Text_of at chars) env = counted (value_of (Text_of at chars) env)
  cost_of (Bytes_of at bytes) env = counted (value_of (Bytes_of at bytes) env)
  cost_of (Flag at truth) env = counted (value_of (Flag at truth) env)
  cost_of (Var at name) env = counted (value_of (Var at name) env)
  cost_of (If_of at test first other) env =
      cost_of test env + costs_after (value_of test env) (λ truth. if truth_of truth then cost_of first env else cost_of other env)
      + counted (value_of (If_of at test first other) env)
  cost_of (Or_of at parts) env = sought_cost true parts env
  cost_of (And_of at parts) env = sought_cost false parts env
  cost_of (Not_of at part) env = cost_of part env + counted (value_of (Not_of at part) env)
  cost_of (Compare_of at left op right) env =
      cost_of left env + costs_after (value_of left env) (λ x. cost_of right env) + counted (value_of (Compare_of at left op right) env)
  cost_of (Sum_of at first tails) env = cost_of first env + costs_after (value_of first env) (chain_cost tails env)
  cost_of (Prod_of at first tails) env = cost_of first env + costs_after (value_of first env) (chain_cost tails env)
  cost_of (Neg_of at part) env = cost_of part env + counted (value_of (Neg_of at part) env)
  cost_of (Post_of at base posts) env = cost_of base env + costs_after (value_of base env) (posts_cost posts env)
  cost_of (Call_of at func parts) env = costs_of parts env + counted (value_of (Call_of at func parts) env)
  cost_of (Bind_of at binder given list body) env =
      cost_of list env + costs_after (value_of list env) (λ members. bind_cost binder (value_of body) (cost_of body) given.name env (members_of members))
      + counted (value_of (Bind_of at binder given list body) env)
  cost_of (Bracket_of at part) env = cost_of part env + counted (value_of part env)
  cost_of (Tuple_of at parts) env = costs_of parts env + counted (value_of (Tuple_of at parts) env)
  cost_of (List_of at parts) env = costs_of parts env + counted (value_of (List_of at parts) env)

  -- expressions in order, as far as they are evaluated
  pub costs_of : ExprTrees → List Binding → ℕ
  costs_of no_expr env = 0
  costs_of (more_expr part parts) env = cost_of part env + costs_after (value_of part env) (λ value. costs_of parts env)

  pub sought_cost : Bool → ExprTrees → List Binding → ℕ
  sought_cost sought no_expr env = 0
  sought_cost sought (more_expr part parts) env = cost_of part env
      + costs_after (value_of part env) (λ truth. if beq (truth_of truth) sought then 0 else begun parts + sought_cost sought parts env)

  pub tail_cost : TailTree → List Binding → Val → ℕ
  tail_cost (tail_of at op right) env left = cost_of right env + counted (tail_value (tail_of at op right) env left)

  pub chain_cost : TailTrees → List Binding → Val → ℕ
  chain_cost no_tail env left = 0
  chain_cost (more_tail tail tails) env left = tail_cost tail env left + costs_after (tail_value tail env left) (chain_cost tails env)

  pub post_cost : PostTree → List Binding → Val → ℕ
  post_cost (index_of at index) env base = cost_of index env + counted (post_value (index_of at index) env base)
  post_cost (part_of at part) env base = counted (post_value (part_of at part) env base)

  pub posts_cost : PostTrees → List Binding → Val → ℕ
  posts_cost no_post env base = 0
  posts_cost (more_post post posts) env base = post_cost post env base + costs_after (post_value post env base) (posts_cost posts env)

-- the value, or the fault that the cost is too high
abbrev pub evaluated : ExprTree → List Binding → Result Val Origin
evaluated tree env = if nat_lt 20000 (cost_of tree env) then fault Cost (place_of tree) else value_of tree env
