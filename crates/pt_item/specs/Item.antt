-- What an item of a suite tests, where checks are handed in beside the suite.
use Rattle.std.specs.Prelude.{◌≡◌, ℕ, List, Some, slice_get, Contains}
use Rattle.pt_choice.specs.declared.choice.Choice.{Choice}
use Rattle.pt_case.specs.Step.{Answer}
use Rattle.pt_ast.specs.declared.suite.Settings.{Settings}
use Rattle.pt_ast.specs.Trees.{BodyTree, Check_of, Property_of, Machine_of, ItemTree}
use Rattle.pt_plan.specs.Says.{plan_says}
use Rattle.pt_prop.specs.Property.{property_plan}
use Rattle.pt_machine.specs.Machine.{machine_plan}

-- a check of this name is among those that are handed in, if the item asks for one
abbrev pub IsHandedIn : List (List ℕ) → ItemTree → Type 0
IsHandedIn known item = item.body ≡ Check_of → Contains known item.name.name

module _ {C : Type 0} (name : C → List ℕ) (step : C → List Choice → Answer → Type 0) (checks : List C) where
  -- one of the checks has this name, and of its answers this is true
  abbrev pub OfNamed : List ℕ → ((List Choice → Answer → Type 0) → Type 0) → Type 0
  OfNamed wanted Says = (place : ℕ) × (check : C) × (slice_get checks place ≡ Some check) × (name check ≡ wanted) × Says (step check)

  -- of the answers of what is tested this is true: of the check that is handed in under the name, of the property, or of the
  -- machine in so many steps
  abbrev pub OfBody : List ℕ → Settings → BodyTree → ((List Choice → Answer → Type 0) → Type 0) → Type 0
  OfBody wanted settings Check_of Says = OfNamed wanted Says
  OfBody wanted settings (Property_of stmts) Says = Says (plan_says (property_plan stmts))
  OfBody wanted settings (Machine_of machine) Says = Says (plan_says (machine_plan machine settings.steps))

  -- of the answers of the item's check this is true
  abbrev pub OfItem : ItemTree → ((List Choice → Answer → Type 0) → Type 0) → Type 0
  OfItem item Says = OfBody item.name.name item.settings item.body Says
