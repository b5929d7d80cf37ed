use Rattle.pt_ast.proofs.Shared.{trees_cross}
use Rattle.pt_item.proofs.Shared.{check_send, check_sync}
use Rattle.pt_run.proofs.explaining.marked_on.Goals as goal

pub returns-in_default-clause-says : goal.returns-in_default-clause-says
returns-in_default-clause-says g c = λ item is. (rw c.items.ensures.items at c.in_default.ensures) item is.0 is.1

pub explain_list-requires-send-C : goal.explain_list-requires-send-C
explain_list-requires-send-C g c κs within = search (trees_cross, check_send) depth 100 fits 20000

pub explain_list-requires-sync-C : goal.explain_list-requires-sync-C
explain_list-requires-sync-C g c κs within = search (trees_cross, check_sync) depth 100 fits 20000
