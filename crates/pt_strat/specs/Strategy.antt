-- What strategies do.
use Rattle.std.specs.Prelude.{ℕ, zero, suc, Bool, true, false, List, [], ◌∷◌, ◌++◌, length, if◌then◌else◌}
use Rattle.pt_val.specs.declared.val.Val.{Val}
use Rattle.pt_val.specs.declared.val.Val.TheVariants as val
use Rattle.pt_ast.specs.declared.binding.Binding.{Binding}
use Rattle.pt_ast.specs.Trees.{StratTree, Ints_of, Bools_of, Texts_of, Blobs_of, Sampled_of, Lists_of, Tuples_of, OneOf_of, Map_of, Filter_of, FlatMap_of, Recursive_of, Self_of, StratTrees, no_strat, more_strat, strats_in, num_of}
use Rattle.pt_eval.specs.Env.{bound}
use Rattle.pt_eval.specs.Parts.{members_of}
use Rattle.pt_eval.specs.Value.{evaluated}
use Rattle.pt_plan.specs.Plan.{Plan, Gives, Rejects, and_then, within}
use Rattle.pt_plan.specs.Asked.{asked_flag}
use Rattle.pt_strat.specs.Labels.{node_label, part_label}
use Rattle.pt_strat.specs.Bounds.{range_of, lengths_of}
use Rattle.pt_strat.specs.Parts.{by_value, integer_plan, text_plan, blob_plan, place_plan, sample_plan, list_plan, try_plan, tries_plan, recursive_plan}

-- it is `self`
abbrev pub is_self : StratTree → Bool
is_self (Self_of at num) = true
is_self _ = false

-- in the span of its node; `self` has none, since the node that it leads back to has one
abbrev pub in_span : StratTree → Plan Val → Plan Val
in_span tree plan = if is_self tree then plan else within (node_label (num_of tree)) plan

abbrev mutual
  -- what a strategy does in its span where `self` does this and these names have these values
  pub inner_plan : StratTree → Plan Val → List Binding → Plan Val
  inner_plan (Ints_of at num lo hi) self env = by_value (range_of at lo hi env) integer_plan
  inner_plan (Bools_of at num) self env = and_then (asked_flag 8) (λ flag. Gives (val.Bool flag))
  inner_plan (Texts_of at num alphabet lo hi) self env = by_value (lengths_of at 64 lo hi env) (text_plan at alphabet.chars)
  inner_plan (Blobs_of at num lo hi) self env = by_value (lengths_of at 64 lo hi env) blob_plan
  inner_plan (Sampled_of at num list) self env = by_value (evaluated list env) (λ items. sample_plan at (members_of items))
  inner_plan (Lists_of at num element lo hi) self env =
      by_value (lengths_of at 256 lo hi env) (list_plan (part_label num) (in_span element (inner_plan element self env)))
  inner_plan (Tuples_of at num parts) self env = tuple_plan parts self env []
  inner_plan (OneOf_of at num parts) self env = and_then (place_plan (length (strats_in parts))) (member_plan parts self env)
  inner_plan (Map_of at num given inner body) self env = and_then (in_span inner (inner_plan inner self env)) (λ value.
      by_value (evaluated body (env ++ bound given.name value ∷ [])) (λ made. Gives made))
  inner_plan (Filter_of at num given inner cond) self env =
      tries_plan (try_plan (part_label num) (in_span inner (inner_plan inner self env)) (λ value. evaluated cond (env ++ bound given.name value ∷ []))) 3
  inner_plan (FlatMap_of at num given inner second) self env = and_then (in_span inner (inner_plan inner self env)) (λ value.
      in_span second (inner_plan second self (env ++ bound given.name value ∷ [])))
  inner_plan (Recursive_of at num depth first second) self env =
      recursive_plan (node_label num) (in_span first (inner_plan first self env)) (λ again. in_span second (inner_plan second again env)) depth
  inner_plan (Self_of at num) self env = self

  -- the parts that are left, behind these values
  pub tuple_plan : StratTrees → Plan Val → List Binding → List Val → Plan Val
  tuple_plan no_strat self env values = Gives (val.Tuple values)
  tuple_plan (more_strat first others) self env values =
      and_then (in_span first (inner_plan first self env)) (λ value. tuple_plan others self env (values ++ value ∷ []))

  -- the one of this number
  pub member_plan : StratTrees → Plan Val → List Binding → ℕ → Plan Val
  member_plan no_strat self env number = Rejects
  member_plan (more_strat first others) self env zero = in_span first (inner_plan first self env)
  member_plan (more_strat first others) self env (suc number) = member_plan others self env number

-- what a strategy does where `self` does this and these names have these values
abbrev pub plan_of : StratTree → Plan Val → List Binding → Plan Val
plan_of tree self env = in_span tree (inner_plan tree self env)
