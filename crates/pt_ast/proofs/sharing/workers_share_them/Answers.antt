use Rattle.pt_ast.proofs.Shared.{trees_cross}
use Rattle.pt_ast.proofs.sharing.workers_share_them.Goals as goal

pub may_be_shared-requires-send-T : goal.may_be_shared-requires-send-T
may_be_shared-requires-send-T c κs = search trees_cross

pub may_be_shared-requires-sync-T : goal.may_be_shared-requires-sync-T
may_be_shared-requires-sync-T c κs = search trees_cross

pub may_be_shared-requires-2-send-T : goal.may_be_shared-requires-2-send-T
may_be_shared-requires-2-send-T c κs = search trees_cross depth 30 fits 20000

pub may_be_shared-requires-2-sync-T : goal.may_be_shared-requires-2-sync-T
may_be_shared-requires-2-sync-T c κs = search trees_cross depth 30 fits 20000
