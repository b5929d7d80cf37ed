-- How far a draw may go down: a number that grows with each draw that it may make.
use Rattle.std.specs.Prelude.{ℕ, zero, suc, ◌+◌}
use Rattle.pt_ast.specs.Trees.{StratTree, Ints_of, Bools_of, Texts_of, Blobs_of, Sampled_of, Lists_of, Tuples_of, OneOf_of, Map_of, Filter_of, FlatMap_of, Recursive_of, Self_of, StratTrees, no_strat, more_strat}
use Rattle.pt_strat.specs.Scope.{ScopeTree, outside, inside}

abbrev pub levels_weight : ℕ → (ℕ → ℕ) → ℕ → ℕ
levels_weight first second zero = suc first
levels_weight first second (suc depth) = suc (first + second (levels_weight first second depth))

abbrev mutual
  pub weight : StratTree → ℕ → ℕ
  weight (Ints_of at num lo hi) self = 1
  weight (Bools_of at num) self = 1
  weight (Texts_of at num alphabet lo hi) self = 1
  weight (Blobs_of at num lo hi) self = 1
  weight (Sampled_of at num list) self = 1
  weight (Lists_of at num element lo hi) self = suc (weight element self)
  weight (Tuples_of at num parts) self = suc (weights parts self)
  weight (OneOf_of at num parts) self = suc (weights parts self)
  weight (Map_of at num given inner body) self = suc (weight inner self)
  weight (Filter_of at num given inner cond) self = suc (weight inner self)
  weight (FlatMap_of at num given inner second) self = suc (weight inner self + weight second self)
  weight (Recursive_of at num depth first second) self = suc (levels_weight (weight first self) (λ again. weight second again) depth)
  weight (Self_of at num) self = suc self

  pub weights : StratTrees → ℕ → ℕ
  weights no_strat self = 0
  weights (more_strat first others) self = weight first self + weights others self

abbrev pub scope_weight : ScopeTree → ℕ
scope_weight outside = 0
scope_weight (inside num depth first second env outer) = levels_weight (weight first (scope_weight outer)) (λ again. weight second again) depth
