-- What the check of a suite answers.
use Rattle.std.specs.Prelude.{◌≡◌, ℕ, Result, Ok, Err, Some, List}
use Rattle.pt_ast.specs.Trees.{SuiteTree}
use Rattle.pt_ast.specs.Suites.{IsTyped}
use Rattle.pt_typing.specs.Fault.{Fault}
use Rattle.pt_typing.specs.SuiteFaults.{FaultInSuite}
use Rattle.pt_check.specs.declared.fault.TypeFault.{TypeFault}
use Rattle.pt_check.specs.Says.{fault_in}

-- the suite is well typed where checks of these names are handed in; or this is its first fault; or memory ran out
abbrev pub IsAnswer : {A : Type 0} → List (List ℕ) → SuiteTree → Result A TypeFault → Type 0
IsAnswer known suite (Ok _) = IsTyped known suite
IsAnswer known suite (Err why) = (fault : Fault) → fault_in why ≡ Some fault → FaultInSuite known suite fault
