use Rattle.std.proofs.Common.{◌≡◌, ◌∙◌, ap, Err, map, length, rules, true}
use Rattle.pt_ast.specs.Plain.{plain_item}
use Rattle.pt_edits.specs.Pairs.{under}
use Rattle.pt_edits.specs.declared.stop.StoreStop.TheVariants.{NoMemory}
use Rattle.pt_stored.specs.Digest.{digest_text}
use Rattle.pt_turns.specs.Turn.{digest_of}
use Rattle.pt_turns.proofs.CountLemmas.{flags-count}
use Rattle.pt_turns.proofs.TurningLemmas.{err-holds, memory-stop, reading-stop, turn-of, turn-made, making-stop}
use Rattle.pt_turns.proofs.one_turn.take_turn.Goals as goal

pub edits_of-requires-clause-flags : goal.edits_of-requires-clause-flags
edits_of-requires-clause-flags g c =
    flags-count g.C.Check.name g.C.Check.step c.args.checks.now c.args.seed _ (plain_item c.args.item.now) c.in_ok-finding.finding c.in_ok-finding.ensures
    ∙ ap length c.in_ok-stored.ensures

pub returns-in_err-readings-clause-stopped : goal.returns-in_err-readings-clause-stopped
returns-in_err-readings-clause-stopped g c =
    let why = c.in_err-readings.field-0.0 in
    let gave : c.from_residual.result ≡ Err why = search rules in
    err-holds c.from_residual.result _ why gave
    (reading-stop g.C.Check.name g.C.Check.step c.args.checks.now c.args.seed (plain_item c.args.item.now) _ _ why c.in_err-readings.ensures.no_clash
    c.in_err-readings.ensures.rests)

pub returns-in_err-stored-clause-stopped : goal.returns-in_err-stored-clause-stopped
returns-in_err-stored-clause-stopped g c =
    let gave : c.from_residual-in_err-stored.result ≡ Err NoMemory = search rules in
    err-holds c.from_residual-in_err-stored.result _ NoMemory gave
    (memory-stop g.C.Check.name g.C.Check.step c.args.checks.now c.args.seed (plain_item c.args.item.now) _ _ c.in_ok-readings.ensures.rests)

pub returns-in_err-finding-clause-stopped : goal.returns-in_err-finding-clause-stopped
returns-in_err-finding-clause-stopped g c =
    let gave : c.from_residual-in_err-finding.result ≡ Err NoMemory = search rules in
    err-holds c.from_residual-in_err-finding.result _ NoMemory gave
    (memory-stop g.C.Check.name g.C.Check.step c.args.checks.now c.args.seed (plain_item c.args.item.now) _ _ c.in_ok-readings.ensures.rests)

pub returns-in_err-block-clause-stopped : goal.returns-in_err-block-clause-stopped
returns-in_err-block-clause-stopped g c =
    let gave : c.from_residual-in_err-block.result ≡ Err NoMemory = search rules in
    err-holds c.from_residual-in_err-block.result _ NoMemory gave
    (memory-stop g.C.Check.name g.C.Check.step c.args.checks.now c.args.seed (plain_item c.args.item.now) _ _ c.in_ok-readings.ensures.rests)

pub returns-in_err-edits-clause-stopped : goal.returns-in_err-edits-clause-stopped
returns-in_err-edits-clause-stopped g c =
    let gave : c.from_residual-in_err-edits.result ≡ Err NoMemory = search rules in
    err-holds c.from_residual-in_err-edits.result _ NoMemory gave
    (memory-stop g.C.Check.name g.C.Check.step c.args.checks.now c.args.seed (plain_item c.args.item.now) _ _ c.in_ok-readings.ensures.rests)

pub returns-in_err-make_edits-clause-stopped : goal.returns-in_err-make_edits-clause-stopped
returns-in_err-make_edits-clause-stopped g c =
    let item = plain_item c.args.item.now in
    let name = g.C.Check.name in
    let step = g.C.Check.step in
    let checks = c.args.checks.now in
    let digest = digest_text c.as_slice-key.result.now in
    let same : digest ≡ digest_of item = ap digest_text c.as_slice-key.ensures.same in
    let read = c.in_ok-readings.ensures in
    let told = g.D.Disk.tells c.args.store.now.disk.now in
    let turn = turn-of name step checks c.args.seed item digest same told c.in_ok-readings.readings c.in_ok-stored.stored c.in_ok-finding.finding
    c.in_ok-edits.edits read.of_key read.ordered read.spelled c.in_ok-stored.ensures c.in_ok-finding.ensures c.in_ok-edits.ensures.edits in
    let why = c.in_err-make_edits.field-0.0 in
    let gave : c.from_residual-in_err-make_edits.result ≡ Err why = search rules in
    err-holds c.from_residual-in_err-make_edits.result _ why gave
    (making-stop name step checks c.args.seed item digest same c.in_ok-finding.finding c.in_ok-edits.edits told _ _ why read.rests turn
    c.in_err-make_edits.ensures.made c.in_err-make_edits.ensures.clash)

pub returns-clause-turn : goal.returns-clause-turn
returns-clause-turn g c =
    let item = plain_item c.args.item.now in
    let name = g.C.Check.name in
    let step = g.C.Check.step in
    let checks = c.args.checks.now in
    let digest = digest_text c.as_slice-key.result.now in
    let same : digest ≡ digest_of item = ap digest_text c.as_slice-key.ensures.same in
    let read = c.in_ok-readings.ensures in
    let told = g.D.Disk.tells c.args.store.now.disk.now in
    let turn = turn-of name step checks c.args.seed item digest same told c.in_ok-readings.readings c.in_ok-stored.stored c.in_ok-finding.finding
    c.in_ok-edits.edits read.of_key read.ordered read.spelled c.in_ok-stored.ensures c.in_ok-finding.ensures c.in_ok-edits.ensures.edits in
    let made = turn-made name step checks c.args.seed item digest same c.in_ok-edits.edits true told _ _ read.rests c.in_ok-make_edits.ensures.made in
    (map (under (digest_of item)) c.in_ok-edits.edits, turn, made)
