-- What the check of a whole suite says.
use Rattle.std.proofs.Common.{◌≡◌, ℕ, Result, Ok, Err, List, refl, subst}
use Rattle.pt_ast.specs.Trees.{SuiteTree}
use Rattle.pt_ast.specs.Suites.{IsTyped}
use Rattle.pt_typing.specs.Fault.{Unknown, Twice, Wrong, UnknownCheck}
use Rattle.pt_typing.specs.SuiteChecks.{checked_suite}
use Rattle.pt_typing.proofs.Suites.{suite-check}
use Rattle.pt_check.specs.declared.fault.TypeFault.{TypeFault}
use Rattle.pt_check.specs.declared.fault.TypeFault.TheVariants as code
use Rattle.pt_check.specs.Says.{Blames, Says}
use Rattle.pt_check.specs.Answer.{IsAnswer}

pub answers : {A : Type 0} (known : List (List ℕ)) (suite : SuiteTree) (result : Result A TypeFault) → Says (checked_suite known suite) (tt {0}) result → IsAnswer known suite result
answers known suite (Ok _) said = (suite-check known suite).comes tt said
answers known suite (Err why) said = λ fault is. (suite-check known suite).stops fault (said fault is)

-- a suite that is well typed has no fault
none-blamed : (known : List (List ℕ)) (suite : SuiteTree) (why : TypeFault) → IsTyped known suite → Blames (checked_suite known suite) why → why ≡ code.NoMemory
none-blamed known suite (code.Unknown at) typed blamed = let good = (suite-check known suite).serves tt typed in let bad = blamed (Unknown at) refl in cc
none-blamed known suite (code.Twice at) typed blamed = let good = (suite-check known suite).serves tt typed in let bad = blamed (Twice at) refl in cc
none-blamed known suite (code.Wrong at) typed blamed = let good = (suite-check known suite).serves tt typed in let bad = blamed (Wrong at) refl in cc
none-blamed known suite (code.UnknownCheck at) typed blamed = let good = (suite-check known suite).serves tt typed in let bad = blamed (UnknownCheck at) refl in cc
none-blamed known suite code.NoMemory typed blamed = refl

pub completes : {A : Type 0} (known : List (List ℕ)) (suite : SuiteTree) (result : Result A TypeFault) → Says (checked_suite known suite) (tt {0}) result → IsTyped known suite →
    (why : TypeFault) → result ≡ Err why → why ≡ code.NoMemory
completes known suite result said typed why is = none-blamed known suite why typed (subst (Says (checked_suite known suite) (tt {0})) is said)
