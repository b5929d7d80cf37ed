-- The items of a suite that is made are those that are examined.
use Rattle.std.proofs.Common.{◌≡◌, ℕ, List, sym, subst}
use Rattle.std.specs.Prelude.{map}
use Rattle.pt_choice.specs.declared.choice.Choice.{Choice}
use Rattle.pt_ast.specs.Bounds.{IsBounded}
use Rattle.pt_ast.specs.Plain.{plain_item, plain_suite}
use Rattle.pt_ast.specs.Sound.{IsSound}
use Rattle.pt_ast.specs.Suites.{IsTyped}
use Rattle.pt_ast.specs.Trees.{SuiteTree}
use Rattle.pt_ast.specs.declared.suite.Item.{Item}
use Rattle.pt_ast.specs.declared.suite.Suite.{Suite}
use Rattle.pt_case.specs.Step.{Answer}
use Rattle.pt_found.specs.declared.finding.Finding.{Finding}
use Rattle.pt_turns.specs.Ready.{AreReady}
use Rattle.pt_turns.specs.Turns.{AreExamined}

-- the items of a sound suite can be examined
pub made-ready : (known : List (List ℕ)) (suite : Suite) (items : List Item) →
    ((known : List (List ℕ)) (suite : SuiteTree) → IsBounded suite → IsTyped known suite → AreReady known suite.items) → items ≡ suite.items →
    IsSound known (plain_suite suite) → AreReady known (map plain_item items)
made-ready known suite items ready items_are sound =
    subst (λ (is : List Item). AreReady known (map plain_item is)) (sym items_are) (ready known (plain_suite suite) sound.bounded sound.typed)

-- what was examined is the made suite
pub made-items : {C : Type 0} (name : C → List ℕ) (step : C → List Choice → Answer → Type 0) (checks : List C) (seed : ℕ) (suite : Suite) (items : List Item)
    (made : SuiteTree) (one other : List Finding) → items ≡ suite.items → plain_suite suite ≡ made → other ≡ one →
    AreExamined name step checks seed (map plain_item items) one → AreExamined name step checks seed made.items other
made-items name step checks seed suite items made one other items_are made_is same examined =
    subst (λ (fs : List Finding). AreExamined name step checks seed made.items fs) (sym same)
    (subst (λ (s : SuiteTree). AreExamined name step checks seed s.items one) made_is
    (subst (λ (is : List Item). AreExamined name step checks seed (map plain_item is) one) items_are examined))
