use Rattle.std.proofs.Common.{rules, map}
use Rattle.pt_ast.specs.Plain.{plain_item}
use Rattle.pt_turns.proofs.SettledLemmas.{result-settled, result-short, not-settled}
use Rattle.pt_turns.proofs.settling.settle_and_turn.Goals as goal

pub returns-in-Ok-clause-ended : goal.returns-in-Ok-clause-ended
returns-in-Ok-clause-ended g c =
    result-settled g.C.Check.name g.C.Check.step c.args.checks.now c.args.seed (map plain_item c.args.items.now) g.D.Disk.faults g.D.Disk.tells
    c.args.disk.now c.in-Ok.store.disk.now c.turn_items-turned.new.store.disk.now _ (g.K.Sink.shows c.args.sink.now)
    (g.K.Sink.shows c.turn_items-turned.new.sink) (search rules) c.in-Ok.ensures.attached c.in-Ok.ensures.quiet c.turn_items-turned.result
    c.turn_items-turned.ensures.ended

pub returns-in-Ok-clause-memory : goal.returns-in-Ok-clause-memory
returns-in-Ok-clause-memory g c =
    result-short g.C.Check.name g.C.Check.step c.args.checks.now c.args.seed (map plain_item c.args.items.now) g.D.Disk.faults g.D.Disk.tells
    c.args.disk.now c.in-Ok.store.disk.now c.turn_items-turned.new.store.disk.now _ (g.K.Sink.shows c.args.sink.now)
    (g.K.Sink.shows c.turn_items-turned.new.sink) (search rules) c.in-Ok.ensures.attached c.in-Ok.ensures.quiet c.turn_items-turned.result
    c.turn_items-turned.ensures.memory

pub returns-in-Err-clause-ended : goal.returns-in-Err-clause-ended
returns-in-Err-clause-ended g c =
    not-settled g.C.Check.name g.C.Check.step c.args.checks.now c.args.seed (map plain_item c.args.items.now) g.D.Disk.faults g.D.Disk.tells
    c.args.disk.now c.in-Err._lost.disk.now _ (g.K.Sink.shows c.args.sink.now) (search rules) c.in-Err.ensures.failed c.in-Err.ensures.cause c.empty.result
    c.empty.ensures
