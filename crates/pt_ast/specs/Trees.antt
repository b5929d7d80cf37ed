-- What the text of a suite says: its trees, without where they lie in memory.
use Rattle.std.specs.Prelude.{ℕ, ℤ, Bool, Option, List, [], ◌∷◌}
use Rattle.pt_val.specs.declared.place.Place.{Place}
use Rattle.pt_ast.specs.declared.ident.Ident.{Ident}
use Rattle.pt_ast.specs.declared.expr.Binder.{Binder}
use Rattle.pt_ast.specs.declared.expr.CompareOp.{CompareOp}
use Rattle.pt_ast.specs.declared.expr.Func.{Func}
use Rattle.pt_ast.specs.declared.expr.Op.{Op}
use Rattle.pt_ast.specs.declared.strat.Alphabet.{Alphabet}
use Rattle.pt_ast.specs.declared.suite.Settings.{Settings}
use Rattle.pt_ast.specs.Types.{TypeTree}

mutual
  -- an expression
  pub data ExprTree : Type 0 where
    Num : Place → ℤ → ExprTree
    Text_of : Place → List ℕ → ExprTree
    Bytes_of : Place → List ℕ → ExprTree
    Flag : Place → Bool → ExprTree
    Var : Place → List ℕ → ExprTree
    If_of : Place → ExprTree → ExprTree → ExprTree → ExprTree
    Or_of : Place → ExprTrees → ExprTree
    And_of : Place → ExprTrees → ExprTree
    Not_of : Place → ExprTree → ExprTree
    Compare_of : Place → ExprTree → CompareOp → ExprTree → ExprTree
    Sum_of : Place → ExprTree → TailTrees → ExprTree
    Prod_of : Place → ExprTree → TailTrees → ExprTree
    Neg_of : Place → ExprTree → ExprTree
    Post_of : Place → ExprTree → PostTrees → ExprTree
    Call_of : Place → Func → ExprTrees → ExprTree
    Bind_of : Place → Binder → Ident → ExprTree → ExprTree → ExprTree
    Bracket_of : Place → ExprTree → ExprTree
    Tuple_of : Place → ExprTrees → ExprTree
    List_of : Place → ExprTrees → ExprTree

  -- expressions in order
  pub data ExprTrees : Type 0 where
    no_expr : ExprTrees
    more_expr : ExprTree → ExprTrees → ExprTrees

  -- an operator of a chain and what stands on its right
  pub data TailTree : Type 0 where
    tail_of : Place → Op → ExprTree → TailTree

  pub data TailTrees : Type 0 where
    no_tail : TailTrees
    more_tail : TailTree → TailTrees → TailTrees

  -- an index, or the number of a tuple's part
  pub data PostTree : Type 0 where
    index_of : Place → ExprTree → PostTree
    part_of : Place → ℤ → PostTree

  pub data PostTrees : Type 0 where
    no_post : PostTrees
    more_post : PostTree → PostTrees → PostTrees

mutual
  -- a strategy with its number
  pub data StratTree : Type 0 where
    Ints_of : Place → ℕ → ExprTree → ExprTree → StratTree
    Bools_of : Place → ℕ → StratTree
    Texts_of : Place → ℕ → Alphabet → ExprTree → ExprTree → StratTree
    Blobs_of : Place → ℕ → ExprTree → ExprTree → StratTree
    Sampled_of : Place → ℕ → ExprTree → StratTree
    Lists_of : Place → ℕ → StratTree → ExprTree → ExprTree → StratTree
    Tuples_of : Place → ℕ → StratTrees → StratTree
    OneOf_of : Place → ℕ → StratTrees → StratTree
    Map_of : Place → ℕ → Ident → StratTree → ExprTree → StratTree
    Filter_of : Place → ℕ → Ident → StratTree → ExprTree → StratTree
    FlatMap_of : Place → ℕ → Ident → StratTree → StratTree → StratTree
    Recursive_of : Place → ℕ → ℕ → StratTree → StratTree → StratTree
    Self_of : Place → ℕ → StratTree

  -- strategies in order
  pub data StratTrees : Type 0 where
    no_strat : StratTrees
    more_strat : StratTree → StratTrees → StratTrees

-- a statement
pub data StmtTree : Type 0 where
  Draw_of : Place → Ident → StratTree → StmtTree
  Let_of : Place → Ident → ExprTree → StmtTree
  Assume_of : Place → ExprTree → StmtTree
  Assert_of : Place → ExprTree → StmtTree
  Pick_of : Place → ℕ → Ident → Ident → StmtTree
  Set_of : Place → Ident → ExprTree → StmtTree
  Give_of : Place → ExprTree → StmtTree

-- a state and what it begins with
pub record StateTree : Type 0 where
  pub at : Place
  pub name : Ident
  pub init : ExprTree

-- a bundle and the type of its entries
pub record BundleTree : Type 0 where
  pub at : Place
  pub name : Ident
  pub type : TypeTree

pub record InvariantTree : Type 0 where
  pub at : Place
  pub cond : ExprTree

pub record RuleTree : Type 0 where
  pub at : Place
  pub name : Ident
  pub when : Option ExprTree
  pub into : Option Ident
  pub stmts : List StmtTree

pub record MachineTree : Type 0 where
  pub num : ℕ
  pub states : List StateTree
  pub bundles : List BundleTree
  pub invariants : List InvariantTree
  pub rules : List RuleTree

-- what an item tests
pub data BodyTree : Type 0 where
  Check_of : BodyTree
  Property_of : List StmtTree → BodyTree
  Machine_of : MachineTree → BodyTree

pub record ItemTree : Type 0 where
  pub at : Place
  pub name : Ident
  pub settings : Settings
  pub body : BodyTree

pub record SuiteTree : Type 0 where
  pub items : List ItemTree

-- lists of the parts above, from lists and back
abbrev pub exprs_of : List ExprTree → ExprTrees
exprs_of [] = no_expr
exprs_of (first ∷ others) = more_expr first (exprs_of others)

abbrev pub exprs_in : ExprTrees → List ExprTree
exprs_in no_expr = []
exprs_in (more_expr first others) = first ∷ exprs_in others

abbrev pub tails_of : List TailTree → TailTrees
tails_of [] = no_tail
tails_of (first ∷ others) = more_tail first (tails_of others)

abbrev pub tails_in : TailTrees → List TailTree
tails_in no_tail = []
tails_in (more_tail first others) = first ∷ tails_in others

abbrev pub posts_of : List PostTree → PostTrees
posts_of [] = no_post
posts_of (first ∷ others) = more_post first (posts_of others)

abbrev pub posts_in : PostTrees → List PostTree
posts_in no_post = []
posts_in (more_post first others) = first ∷ posts_in others

abbrev pub strats_of : List StratTree → StratTrees
strats_of [] = no_strat
strats_of (first ∷ others) = more_strat first (strats_of others)

abbrev pub strats_in : StratTrees → List StratTree
strats_in no_strat = []
strats_in (more_strat first others) = first ∷ strats_in others

-- the place of an expression's first token
abbrev pub place_of : ExprTree → Place
place_of (Num at number) = at
place_of (Text_of at chars) = at
place_of (Bytes_of at bytes) = at
place_of (Flag at truth) = at
place_of (Var at name) = at
place_of (If_of at test first other) = at
place_of (Or_of at parts) = at
place_of (And_of at parts) = at
place_of (Not_of at part) = at
place_of (Compare_of at left op right) = at
place_of (Sum_of at first tails) = at
place_of (Prod_of at first tails) = at
place_of (Neg_of at part) = at
place_of (Post_of at base posts) = at
place_of (Call_of at func parts) = at
place_of (Bind_of at binder given list body) = at
place_of (Bracket_of at part) = at
place_of (Tuple_of at parts) = at
place_of (List_of at parts) = at

-- the place of a strategy's first token
abbrev pub strat_place_of : StratTree → Place
strat_place_of (Ints_of at num lo hi) = at
strat_place_of (Bools_of at num) = at
strat_place_of (Texts_of at num alphabet lo hi) = at
strat_place_of (Blobs_of at num lo hi) = at
strat_place_of (Sampled_of at num list) = at
strat_place_of (Lists_of at num element lo hi) = at
strat_place_of (Tuples_of at num parts) = at
strat_place_of (OneOf_of at num parts) = at
strat_place_of (Map_of at num given inner body) = at
strat_place_of (Filter_of at num given inner cond) = at
strat_place_of (FlatMap_of at num given inner second) = at
strat_place_of (Recursive_of at num depth first second) = at
strat_place_of (Self_of at num) = at

-- a strategy's number
abbrev pub num_of : StratTree → ℕ
num_of (Ints_of at num lo hi) = num
num_of (Bools_of at num) = num
num_of (Texts_of at num alphabet lo hi) = num
num_of (Blobs_of at num lo hi) = num
num_of (Sampled_of at num list) = num
num_of (Lists_of at num element lo hi) = num
num_of (Tuples_of at num parts) = num
num_of (OneOf_of at num parts) = num
num_of (Map_of at num given inner body) = num
num_of (Filter_of at num given inner cond) = num
num_of (FlatMap_of at num given inner second) = num
num_of (Recursive_of at num depth first second) = num
num_of (Self_of at num) = num
