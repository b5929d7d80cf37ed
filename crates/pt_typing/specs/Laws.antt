-- The laws of types and first faults.
use Rattle.std.specs.Prelude.{◌≡◌, ◌⊎◌, ℕ, Option, Result, Ok, Err, List}
use Rattle.pt_ast.specs.Types.{TypeTree}
use Rattle.pt_ast.specs.Trees.{ExprTree, StratTree, StmtTree, SuiteTree}
use Rattle.pt_ast.specs.Names.{Scope}
use Rattle.pt_ast.specs.Typing.{HasType, Draws}
use Rattle.pt_ast.specs.Suites.{Context, BindAll, IsTyped}
use Rattle.pt_typing.specs.Fault.{Fault}
use Rattle.pt_typing.specs.ExprChecks.{checked}
use Rattle.pt_typing.specs.StratChecks.{drawn}
use Rattle.pt_typing.specs.SuiteChecks.{bound_by_all, checked_suite}
use Rattle.pt_typing.specs.ExprFaults.{FaultIn}
use Rattle.pt_typing.specs.StratFaults.{FaultInStrat}
use Rattle.pt_typing.specs.SuiteFaults.{FaultInStmts, FaultInSuite}

-- something is right in one way or has a fault, and not both, and it has one fault at most
pub record IsDecided {A : Type 0} (Right : A → Type 0) (Faulty : Fault → Type 0) : Type 0 where
  pub one_or_other : ((value : A) × Right value) ⊎ ((fault : Fault) × Faulty fault)
  pub not_both : (value : A) (fault : Fault) → Right value → ¬ Faulty fault
  pub one_fault : (fault other : Fault) → Faulty fault → Faulty other → fault ≡ other

-- an expression has a type or a first fault
abbrev pub ExprsAreDecided : Type 0
ExprsAreDecided = (scope : Scope) (tree : ExprTree) → IsDecided (HasType scope tree) (FaultIn scope tree)

-- so has a strategy
abbrev pub StratsAreDecided : Type 0
StratsAreDecided = (scope : Scope) (self : Option TypeTree) (tree : StratTree) → IsDecided (Draws scope self tree) (FaultInStrat scope self tree)

-- statements leave names behind them or have a first fault
abbrev pub StmtsAreDecided : Type 0
StmtsAreDecided = (context : Context) (scope : Scope) (stmts : List StmtTree) → IsDecided (BindAll context scope stmts) (FaultInStmts context scope stmts)

-- a suite is well typed or has a first fault
abbrev pub SuitesAreDecided : Type 0
SuitesAreDecided = (known : List (List ℕ)) (suite : SuiteTree) → IsDecided {A = Unit {0}} (λ _. IsTyped known suite) (FaultInSuite known suite)

-- the check comes to a value exactly where this holds of it, and to a fault exactly where that does
pub record IsCheck {A : Type 0} (Right : A → Type 0) (Faulty : Fault → Type 0) (check : Result A Fault) : Type 0 where
  pub comes : (value : A) → check ≡ Ok value → Right value
  pub serves : (value : A) → Right value → check ≡ Ok value
  pub stops : (fault : Fault) → check ≡ Err fault → Faulty fault
  pub faults : (fault : Fault) → Faulty fault → check ≡ Err fault

-- the functions come to what the relations say
pub record ChecksComeToThese : Type 0 where
  pub exprs : (scope : Scope) (tree : ExprTree) → IsCheck (HasType scope tree) (FaultIn scope tree) (checked scope tree)
  pub strats : (scope : Scope) (self : Option TypeTree) (tree : StratTree) → IsCheck (Draws scope self tree) (FaultInStrat scope self tree) (drawn scope self tree)
  pub stmts : (context : Context) (scope : Scope) (stmts : List StmtTree) →
      IsCheck (BindAll context scope stmts) (FaultInStmts context scope stmts) (bound_by_all context scope stmts)
  pub suites : (known : List (List ℕ)) (suite : SuiteTree) → IsCheck (λ _. IsTyped known suite) (FaultInSuite known suite) (checked_suite known suite)
