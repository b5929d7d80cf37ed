use Rattle.std.proofs.Common.{map}
use Rattle.pt_turns.proofs.ReadyLemmas.{item-ready}
use Rattle.pt_turns.proofs.TurnsLemmas.{next-examined}
use Rattle.pt_turns.proofs.turns.examine_all.Goals as goal

pub examine_item-requires-clause-ready : goal.examine_item-requires-clause-ready
examine_item-requires-clause-ready g c κs within =
    item-ready (map g.C.Check.name c.args.checks.now) c.args.items.now c.loop-item.item-index c.item-item.result c.loop-item-test.true c.item-item.is
    c.requires.ready

pub loop-item-preserved : goal.loop-item-preserved
loop-item-preserved g c =
    let inv = c.loop-item.invariant in
    let next = next-examined _ _ _ _ c.args.items.now c.loop-item.findings c.push.new.self c.item-item.result c.in_ok-examine_item.field-0
    c.loop-item.item-index inv.counted c.loop-item-test.true c.item-item.is c.in_ok-push.ensures.ok inv.those
    (rw c.empty-stored.ensures at c.in_ok-examine_item.ensures) in
    record { counted = next.0; those = next.1 }
