use Rattle.pt_ast.proofs.Shared.{trees_cross, machine_field_sync}
use Rattle.tests_strategies.proofs.machines.record.Goals as goal

pub replay-requires-send-C : goal.replay-requires-send-C
replay-requires-send-C c κs = search (trees_cross, machine_field_sync) depth 100 fits 20000

pub replay-requires-sync-C : goal.replay-requires-sync-C
replay-requires-sync-C c κs = search (trees_cross, machine_field_sync) depth 100 fits 20000
