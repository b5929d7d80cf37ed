use Rattle.pt_ast.proofs.Shared.{trees_cross}
use Rattle.pt_item.proofs.Shared.{check_send, check_sync}
use Rattle.pt_turns.proofs.ExaminedLemmas.{result-examined}
use Rattle.pt_turns.proofs.examining.examine_item.Goals as goal

pub examine-requires-send-C : goal.examine-requires-send-C
examine-requires-send-C g c κs within = search (trees_cross, check_send) depth 100 fits 20000

pub examine-requires-sync-C : goal.examine-requires-sync-C
examine-requires-sync-C g c κs within = search (trees_cross, check_sync) depth 100 fits 20000

pub returns : goal.returns
returns g c =
    result-examined g.C.Check.name g.C.Check.step c.args.checks.now _ c.of-check.result c.of-check.ensures c.an_item_notes_what_it_draws.ensures
    c.args.seed c.args.stored.now c.examine.result c.examine.ensures.finding c.examine.ensures.replays
