use Rattle.std.proofs.Common.{◌∙◌, map, refl}
use Rattle.pt_turns.specs.Scene.{scene}
use Rattle.pt_turns.proofs.EndedLemmas.{
  cause-rose,
  cause-quiet,
  cause-ok,
  on-err,
  none-so-far,
  failed-ended,
  memory-ended,
  clash-ended,
  push-ended,
  so-more,
  cut-ended,
}
use Rattle.pt_turns.proofs.ReadyLemmas.{item-ready}
use Rattle.pt_turns.proofs.turns.turn_items.Goals as goal

pub loop-item-init : goal.loop-item-init
loop-item-init g c = record {
  so = none-so-far g.C.Check.name g.C.Check.step c.args.checks.now c.args.seed c.args.items.now c.empty-findings.result c.empty-findings.ensures _;
  alive = c.requires.alive;
  same_reference = refl;
}

pub take_turn-requires-clause-ready : goal.take_turn-requires-clause-ready
take_turn-requires-clause-ready g c κs within =
    item-ready (map g.C.Check.name c.args.checks.now) c.args.items.now c.loop-item.item-index c.item-item.result c.loop-item-test.true c.item-item.is
    c.requires.ready

pub returns-in-Err-Failed-clause-ended : goal.returns-in-Err-Failed-clause-ended
returns-in-Err-Failed-clause-ended g c =
    let disk = c.take_turn.new.store.disk.now in
    let stopped = rw c.in-Err-Failed.field-0-is at c.in-Err-Failed.ensures.stopped in
    let rose = cause-rose c.in-Err-Failed.field-0 _ _ c.in-Err-Failed.field-0-is c.in-Err-Failed.ensures.cause in
    failed-ended g.C.Check.name g.C.Check.step c.args.checks.now c.args.seed c.args.items.now c.loop-item.item-index c.item-item.result
    c.loop-item-test.true c.item-item.is c.loop-item.findings _ _
    (scene (g.D.Disk.faults disk) (g.D.Disk.tells disk) (g.K.Sink.shows c.loop-item.sink)) c.loop-item.invariant.so stopped rose refl

pub returns-in-Err-Clash-clause-ended : goal.returns-in-Err-Clash-clause-ended
returns-in-Err-Clash-clause-ended g c =
    let disk = c.take_turn.new.store.disk.now in
    let is = c.in-Err-Clash.field-0-is in
    let stopped = rw is at c.in-Err-Clash.ensures.stopped in
    let quiet = cause-quiet c.in-Err-Clash.field-0 _ _ (λ failed. cc (failed, is)) c.in-Err-Clash.ensures.cause in
    rw is (clash-ended g.C.Check.name g.C.Check.step c.args.checks.now c.args.seed c.args.items.now c.loop-item.item-index c.item-item.result
    c.loop-item-test.true c.item-item.is c.loop-item.findings c.in-Err-Clash.two _ _
    (scene (g.D.Disk.faults disk) (g.D.Disk.tells disk) (g.K.Sink.shows c.loop-item.sink)) c.loop-item.invariant.so stopped quiet refl)

pub returns-in-Err-NoMemory-clause-memory : goal.returns-in-Err-NoMemory-clause-memory
returns-in-Err-NoMemory-clause-memory g c =
    let disk = c.take_turn.new.store.disk.now in
    let is = c.in-Err-NoMemory.field-0-is in
    let stopped = rw is at c.in-Err-NoMemory.ensures.stopped in
    let quiet = cause-quiet c.in-Err-NoMemory.field-0 _ _ (λ failed. cc (failed, is)) c.in-Err-NoMemory.ensures.cause in
    memory-ended g.C.Check.name g.C.Check.step c.args.checks.now c.args.seed c.args.items.now c.loop-item.item-index c.item-item.result
    c.loop-item-test.true c.item-item.is c.loop-item.findings _ _
    (scene (g.D.Disk.faults disk) (g.D.Disk.tells disk) (g.K.Sink.shows c.loop-item.sink)) c.loop-item.invariant.so stopped quiet refl

pub returns-in_err-push-clause-memory : goal.returns-in_err-push-clause-memory
returns-in_err-push-clause-memory g c =
    let disk = c.take_turn.new.store.disk.now in
    let turn = c.in-Ok.ensures.turn in
    let quiet = cause-ok c.in-Ok.turning _ _ c.in-Ok.ensures.cause in
    on-err c.from_residual.result _
    (push-ended g.C.Check.name g.C.Check.step c.args.checks.now c.args.seed c.args.items.now c.loop-item.item-index c.item-item.result
    c.loop-item-test.true c.item-item.is c.loop-item.findings c.push.new.self c.in-Ok.turning.finding turn.0 _ _ c.loop-item.invariant.so turn.1
    (scene (g.D.Disk.faults disk) (g.D.Disk.tells disk) (g.K.Sink.shows c.loop-item.sink)) turn.2 quiet refl)

pub returns-in_default-clause-ended : goal.returns-in_default-clause-ended
returns-in_default-clause-ended g c =
    let disk = c.take_turn.new.store.disk.now in
    let turn = c.in-Ok.ensures.turn in
    let quiet = cause-ok c.in-Ok.turning _ _ c.in-Ok.ensures.cause in
    cut-ended g.C.Check.name g.C.Check.step c.args.checks.now c.args.seed c.args.items.now c.loop-item.item-index c.item-item.result
    c.loop-item-test.true c.item-item.is c.loop-item.findings c.push.new.self c.in-Ok.turning.finding turn.0 _ _ c.loop-item.invariant.so turn.1
    (scene (g.D.Disk.faults disk) (g.D.Disk.tells disk) (g.K.Sink.shows c.write_all.new.sink)) c.in-Ok.turning.block c.in_ok-push.ensures.ok turn.2 quiet
    c.in-Ok.ensures.block (rw c.as_slice.ensures at c.in_default.ensures.part) c.in_default.ensures.cause

pub loop-item-preserved : goal.loop-item-preserved
loop-item-preserved g c =
    let disk = c.take_turn.new.store.disk.now in
    let turn = c.in-Ok.ensures.turn in
    let quiet = cause-ok c.in-Ok.turning _ _ c.in-Ok.ensures.cause in
    record {
      so = so-more g.C.Check.name g.C.Check.step c.args.checks.now c.args.seed c.args.items.now c.loop-item.item-index c.item-item.result
          c.loop-item-test.true c.item-item.is c.loop-item.findings c.push.new.self c.in-Ok.turning.finding turn.0 _ _ c.loop-item.invariant.so turn.1
          (scene (g.D.Disk.faults disk) (g.D.Disk.tells disk) (g.K.Sink.shows c.write_all.new.sink)) c.in-Ok.turning.block c.in_ok-push.ensures.ok turn.2
          quiet c.in-Ok.ensures.block (rw c.as_slice.ensures at c.in-Ok-write_all.ensures.all) c.in-Ok-write_all.ensures.quiet;
      alive = c.in-Ok.ensures.alive;
      same_reference = c.take_turn.ensures.same_reference ∙ c.loop-item.invariant.same_reference;
    }
