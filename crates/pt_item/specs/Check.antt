-- An item's check: what it is, what it is called and what it answers.
use Rattle.std.specs.Prelude.{◌≡◌, ℕ, List, Some, map, slice_get}
use Rattle.pt_choice.specs.declared.choice.Choice.{Choice}
use Rattle.pt_case.specs.Step.{Answer}
use Rattle.pt_ast.specs.Plain.{plain_stmt, plain_machine}
use Rattle.pt_ast.specs.Trees.{Check_of, Property_of, Machine_of, ItemTree}
use Rattle.pt_plan.specs.Says.{plan_says}
use Rattle.pt_prop.specs.Property.{property_plan}
use Rattle.pt_machine.specs.Machine.{machine_plan}
use Rattle.pt_item.specs.declared.item_check.ItemCheck.{ItemCheck}
use Rattle.pt_item.specs.declared.item_check.ItemCheck.TheVariants.{Property, Machine, Handed}

-- its name, where those that are handed in have these
abbrev pub check_name : {C : Type 0} → (C → List ℕ) → ItemCheck C → List ℕ
check_name name (Property property) = property.name.now
check_name name (Machine machine) = machine.name.now
check_name name (Handed check) = name check.now

-- its answers, where those that are handed in answer so
abbrev pub check_step : {C : Type 0} → (C → List Choice → Answer → Type 0) → ItemCheck C → List Choice → Answer → Type 0
check_step step (Property property) = plan_says (property_plan (map plain_stmt property.stmts.now))
check_step step (Machine machine) = plan_says (machine_plan (plain_machine machine.machine.now) machine.steps)
check_step step (Handed check) = step check.now

-- It tests what the item says: its property, its machine in as many steps as it is set to, or one of those that are handed in.
abbrev pub Tests : {C : Type 0} → List C → ItemTree → ItemCheck C → Type 0
Tests checks item (Property property) = item.body ≡ Property_of (map plain_stmt property.stmts.now)
Tests checks item (Machine machine) = (item.body ≡ Machine_of (plain_machine machine.machine.now)) × (machine.steps ≡ item.settings.steps)
Tests checks item (Handed check) = (item.body ≡ Check_of) × (place : ℕ) × (slice_get checks place ≡ Some check.now)

-- the check is the item's, under its name
pub record IsCheckOf {C : Type 0} (name : C → List ℕ) (checks : List C) (item : ItemTree) (check : ItemCheck C) : Type 0 where
  pub named : check_name name check ≡ item.name.name
  pub tests : Tests checks item check
