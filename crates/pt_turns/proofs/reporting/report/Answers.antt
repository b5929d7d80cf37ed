use Rattle.std.proofs.Common.{map, refl}
use Rattle.pt_ast.specs.Plain.{plain_item}
use Rattle.pt_turns.specs.Scene.{scene}
use Rattle.pt_turns.proofs.FinishLemmas.{failed-finish, clash-finish, result-finish, result-short}
use Rattle.pt_turns.proofs.reporting.report.Goals as goal

pub returns-in-All-clause-finishes : goal.returns-in-All-clause-finishes
returns-in-All-clause-finishes g c =
    let old = c.args.disk.now in
    let new = c.settle_and_turn.new.disk in
    result-finish g.C.Check.name g.C.Check.step c.args.checks.now c.args.seed (map plain_item c.args.items.now)
    (scene (g.D.Disk.faults old) (g.D.Disk.tells old) (g.K.Sink.shows c.args.sink.now))
    (scene (g.D.Disk.faults new) (g.D.Disk.tells new) (g.K.Sink.shows c.settle_and_turn.new.sink)) c.in-All.findings
    (g.K.Sink.shows c.add_tail.new.sink) c.add_tail.result (rw c.in-All.is at c.in_ok-findings.ensures.ended) c.add_tail.ensures.added

pub returns-in-All-clause-memory : goal.returns-in-All-clause-memory
returns-in-All-clause-memory g c =
    let old = c.args.disk.now in
    let new = c.settle_and_turn.new.disk in
    result-short g.C.Check.name g.C.Check.step c.args.checks.now c.args.seed (map plain_item c.args.items.now)
    (scene (g.D.Disk.faults old) (g.D.Disk.tells old) (g.K.Sink.shows c.args.sink.now))
    (scene (g.D.Disk.faults new) (g.D.Disk.tells new) (g.K.Sink.shows c.settle_and_turn.new.sink)) c.in-All.findings
    g.K.Sink.shows c.settle_and_turn.new.sink c.add_tail.new.sink refl c.add_tail.result (rw c.in-All.is at c.in_ok-findings.ensures.ended)
    c.add_tail.ensures.nothing

pub returns-in-Failed-clause-finishes : goal.returns-in-Failed-clause-finishes
returns-in-Failed-clause-finishes g c =
    let old = c.args.disk.now in
    let new = c.settle_and_turn.new.disk in
    failed-finish g.C.Check.name g.C.Check.step c.args.checks.now c.args.seed (map plain_item c.args.items.now)
    (scene (g.D.Disk.faults old) (g.D.Disk.tells old) (g.K.Sink.shows c.args.sink.now))
    (scene (g.D.Disk.faults new) (g.D.Disk.tells new) (g.K.Sink.shows c.settle_and_turn.new.sink)) c.in-Failed.findings
    (g.K.Sink.shows c.add_line.new.sink) c.add_line.result (rw c.in-Failed.is at c.in_ok-findings.ensures.ended) c.add_line.ensures.added

pub returns-in-Clashed-clause-finishes : goal.returns-in-Clashed-clause-finishes
returns-in-Clashed-clause-finishes g c =
    let old = c.args.disk.now in
    let new = c.settle_and_turn.new.disk in
    clash-finish g.C.Check.name g.C.Check.step c.args.checks.now c.args.seed (map plain_item c.args.items.now)
    (scene (g.D.Disk.faults old) (g.D.Disk.tells old) (g.K.Sink.shows c.args.sink.now))
    (scene (g.D.Disk.faults new) (g.D.Disk.tells new) (g.K.Sink.shows c.settle_and_turn.new.sink)) c.in-Clashed.findings c.in-Clashed.two
    (g.K.Sink.shows c.add_line-in-Clashed.new.sink) c.add_line-in-Clashed.result (rw c.in-Clashed.is at c.in_ok-findings.ensures.ended)
    c.add_line-in-Clashed.ensures.added
