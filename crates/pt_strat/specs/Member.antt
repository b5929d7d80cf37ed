-- Which values a strategy has.
use Rattle.std.specs.Prelude.{◌≡◌, ◌⊎◌, ℕ, zero, suc, ℤ, ◌≤ℤ◌, pos, Bool, true, Ok, List, [], ◌∷◌, ◌++◌, length}
use Rattle.std.specs.List.{All, Contains}
use Rattle.pt_val.specs.declared.val.Val.{Val}
use Rattle.pt_val.specs.declared.val.Val.TheVariants as val
use Rattle.pt_ast.specs.declared.binding.Binding.{Binding}
use Rattle.pt_ast.specs.Trees.{ExprTree, StratTree, Ints_of, Bools_of, Texts_of, Blobs_of, Sampled_of, Lists_of, Tuples_of, OneOf_of, Map_of, Filter_of, FlatMap_of, Recursive_of, Self_of, StratTrees, no_strat, more_strat}
use Rattle.pt_eval.specs.Env.{bound}
use Rattle.pt_eval.specs.Parts.{number_of, truth_of, members_of}
use Rattle.pt_eval.specs.Value.{evaluated}

-- the number is not below the value of the one expression and not above that of the other
abbrev pub IsBetween : ExprTree → ExprTree → List Binding → ℤ → Type 0
IsBetween lo hi env number = (a b : Val) × (evaluated lo env ≡ Ok a) × (evaluated hi env ≡ Ok b) × (number_of a ≤ℤ number) × (number ≤ℤ number_of b)

-- one of the first, or one of the second where `self` has the values of one level less
abbrev pub IsWithin : (Val → Type 0) → ((Val → Type 0) → Val → Type 0) → ℕ → Val → Type 0
IsWithin First Second zero value = First value
IsWithin First Second (suc depth) value = First value ⊎ Second (IsWithin First Second depth) value

abbrev mutual
  -- the value is one of the strategy's where `self` has these and these names have these values
  pub IsIn : StratTree → (Val → Type 0) → List Binding → Val → Type 0
  IsIn (Ints_of at num lo hi) Self env value = (number : ℤ) × (value ≡ val.Int number) × IsBetween lo hi env number
  IsIn (Bools_of at num) Self env value = (flag : Bool) × (value ≡ val.Bool flag)
  IsIn (Texts_of at num alphabet lo hi) Self env value =
      (text : List ℕ) × (value ≡ val.Text text) × IsBetween lo hi env (pos (length text)) × All (Contains alphabet.chars) text
  IsIn (Blobs_of at num lo hi) Self env value = (bytes : List ℕ) × (value ≡ val.Bytes bytes) × IsBetween lo hi env (pos (length bytes))
  IsIn (Sampled_of at num list) Self env value = (items : Val) × (evaluated list env ≡ Ok items) × Contains (members_of items) value
  IsIn (Lists_of at num element lo hi) Self env value =
      (values : List Val) × (value ≡ val.List values) × IsBetween lo hi env (pos (length values)) × All (IsIn element Self env) values
  IsIn (Tuples_of at num parts) Self env value = (values : List Val) × (value ≡ val.Tuple values) × AreIn parts Self env values
  IsIn (OneOf_of at num parts) Self env value = IsInOne parts Self env value
  IsIn (Map_of at num given inner body) Self env value =
      (from : Val) × IsIn inner Self env from × (evaluated body (env ++ bound given.name from ∷ []) ≡ Ok value)
  IsIn (Filter_of at num given inner cond) Self env value =
      IsIn inner Self env value × ((truth : Val) × (evaluated cond (env ++ bound given.name value ∷ []) ≡ Ok truth) × (truth_of truth ≡ true))
  IsIn (FlatMap_of at num given inner second) Self env value =
      (from : Val) × IsIn inner Self env from × IsIn second Self (env ++ bound given.name from ∷ []) value
  IsIn (Recursive_of at num depth first second) Self env value = IsWithin (IsIn first Self env) (λ Again. IsIn second Again env) depth value
  IsIn (Self_of at num) Self env value = Self value

  -- there is a value for each strategy, which is one of its own
  pub AreIn : StratTrees → (Val → Type 0) → List Binding → List Val → Type 0
  AreIn no_strat Self env [] = Unit {0}
  AreIn (more_strat first others) Self env (value ∷ values) = IsIn first Self env value × AreIn others Self env values
  AreIn _ Self env _ = ⊥

  -- the value is one of some strategy's
  pub IsInOne : StratTrees → (Val → Type 0) → List Binding → Val → Type 0
  IsInOne no_strat Self env value = ⊥
  IsInOne (more_strat first others) Self env value = IsIn first Self env value ⊎ IsInOne others Self env value

-- the value is one of the strategy's, which stands in no `recursive`
abbrev pub IsOneOf : StratTree → List Binding → Val → Type 0
IsOneOf tree env value = IsIn tree (λ none. ⊥) env value
