use Rattle.pt_ast.proofs.Shared.{trees_cross}
use Rattle.pt_item.proofs.Shared.{check_send, check_sync}
use Rattle.pt_run.proofs.showing.replayed_on.Goals as goal

pub returns-in_default : goal.returns-in_default
returns-in_default g c = λ item is. (rw c.items.ensures.items at c.in_default.ensures) item is.0 is.1

pub replay-requires-send-C : goal.replay-requires-send-C
replay-requires-send-C g c κs within = search (trees_cross, check_send) depth 100 fits 20000

pub replay-requires-sync-C : goal.replay-requires-sync-C
replay-requires-sync-C g c κs within = search (trees_cross, check_sync) depth 100 fits 20000
