-- The laws of the trees.
use Rattle.std.specs.Prelude.{◌≡◌, ℕ, ◌↔◌, IsTrue, Option, List}
use Rattle.std.specs.List.{AllByRecursion}
use Rattle.pt_val.specs.declared.ty.Ty.{Ty}
use Rattle.pt_val.specs.declared.val.Val.{Val}
use Rattle.pt_val.specs.Typing.{has_type}
use Rattle.pt_ast.specs.Types.{TypeTree}
use Rattle.pt_ast.specs.Trees.{ExprTree, StratTree, StmtTree, StateTree, SuiteTree}
use Rattle.pt_ast.specs.Plain.{plain_type}
use Rattle.pt_ast.specs.Names.{Scope}
use Rattle.pt_ast.specs.Typing.{HasType, Draws}
use Rattle.pt_ast.specs.Suites.{Context, BindAll, Declare}
use Rattle.pt_ast.specs.Sound.{IsSound, IsSoundItem}
use Rattle.pt_ast.specs.Values.{IsOf}

-- an expression has one type at most
abbrev pub ExprsHaveOneType : Type 0
ExprsHaveOneType = (scope : Scope) (tree : ExprTree) (type other : TypeTree) → HasType scope tree type → HasType scope tree other → type ≡ other

-- the values of a strategy have one type at most
abbrev pub StratsDrawOneType : Type 0
StratsDrawOneType = (scope : Scope) (self : Option TypeTree) (tree : StratTree) (type other : TypeTree) →
    Draws scope self tree type → Draws scope self tree other → type ≡ other

-- statements leave one scope at most behind them
abbrev pub StmtsLeaveOneScope : Type 0
StmtsLeaveOneScope = (context : Context) (scope : Scope) (stmts : List StmtTree) (after other : Scope) →
    BindAll context scope stmts after → BindAll context scope stmts other → after ≡ other

-- and so do states
abbrev pub StatesLeaveOneScope : Type 0
StatesLeaveOneScope = (scope : Scope) (states : List StateTree) (after other : Scope) →
    Declare scope states after → Declare scope states other → after ≡ other

-- the items of a sound suite are sound
abbrev pub SoundSuitesHaveSoundItems : Type 0
SoundSuitesHaveSoundItems = (known : List (List ℕ)) (suite : SuiteTree) → IsSound known suite → AllByRecursion (IsSoundItem known) suite.items

-- a value is of a type exactly where `has_type` says so
abbrev pub HasTypeIsOf : Type 0
HasTypeIsOf = (value : Val) (type : Ty) → IsTrue (has_type value type) ↔ IsOf (plain_type type) value
