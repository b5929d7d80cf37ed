-- An item's check may be sent to a thread and shared by several.
use denote.Ref.{NamedLft}
use denote.RattleType.{RattleType}
use denote.Param.Send.{IsSend, IsSync}
use Rattle.pt_ast.proofs.Shared.{trees_cross, machine_field_sync}
use Rattle.pt_item.specs.contracts.item_check.ItemCheck as item_check
use Rattle.pt_prop.specs.contracts.property.PropertyCheck as property
use Rattle.pt_machine.specs.contracts.machine.MachineCheck as machine

pub property_field_send : (α : NamedLft) → IsSend (property.the_field α).row
property_field_send α = search (trees_cross) depth 100 fits 20000

pub property_field_sync : (α : NamedLft) → IsSync (property.the_field α).row
property_field_sync α = search (trees_cross) depth 100 fits 20000

pub machine_check_field_send : (α : NamedLft) → IsSend (machine.the_field α).row
machine_check_field_send α = search (trees_cross, machine_field_sync) depth 100 fits 20000

pub machine_check_field_sync : (α : NamedLft) → IsSync (machine.the_field α).row
machine_check_field_sync α = search (trees_cross, machine_field_sync) depth 100 fits 20000

pub check_send : (α : NamedLft) (C : RattleType) → IsSync C → IsSend (item_check.the_row α C)
check_send α C shared = search (trees_cross, property_field_send, machine_check_field_send) depth 100 fits 20000

pub check_sync : (α : NamedLft) (C : RattleType) → IsSync C → IsSync (item_check.the_row α C)
check_sync α C shared = search (trees_cross, property_field_sync, machine_check_field_sync) depth 100 fits 20000
