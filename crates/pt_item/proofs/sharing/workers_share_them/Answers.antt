use Rattle.pt_ast.proofs.Shared.{trees_cross}
use Rattle.pt_item.proofs.Shared.{check_send, check_sync}
use Rattle.pt_item.proofs.sharing.workers_share_them.Goals as goal

pub may_be_shared-requires-send-T : goal.may_be_shared-requires-send-T
may_be_shared-requires-send-T g c κs within = search (trees_cross, check_send) depth 100 fits 20000

pub may_be_shared-requires-sync-T : goal.may_be_shared-requires-sync-T
may_be_shared-requires-sync-T g c κs within = search (trees_cross, check_sync) depth 100 fits 20000
