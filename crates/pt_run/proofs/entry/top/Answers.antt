use Rattle.std.proofs.Common.{◌≡◌, inr, rules}
use Rattle.std.specs.Prelude.{◌↔◌, IsSome}
use Rattle.pt_choice.specs.Faults.{next_count}
use Rattle.pt_report.specs.declared.refusal.Refusal.TheVariants.{Usage}
use Rattle.pt_run.specs.Call.{Answers, call}
use Rattle.pt_commands.specs.Command.{asked_by}
use Rattle.pt_run.specs.Ends.{Ends}
use Rattle.pt_commands.specs.Message.{IsStatus, Tells}
use Rattle.pt_run.specs.Outside.{outside}
use Rattle.pt_commands.specs.Words.{Asks, AskNothing, AskNoFile}
use Rattle.pt_commands.specs.declared.message.Message.TheVariants.{Refused}
use Rattle.pt_commands.proofs.Asking.{nothing_no_file}
use Rattle.pt_run.proofs.Messages.{IfOk-follows, OnOk-always}
use Rattle.pt_run.proofs.Statuses.{ends_as, usage_as, status_from, clash_from}
use Rattle.pt_run.proofs.entry.top.Goals as goal

pub returns-in-Some-clause-status : goal.returns-in-Some-clause-status
returns-in-Some-clause-status g c =
    let before = outside (g.F.Files.shows c.args.files.now) (g.D.Disk.faults c.args.disk.now) (g.D.Disk.tells c.args.disk.now) (g.K.Sink.shows c.args.sink.now) in
    let after = outside (g.F.Files.shows c.perform.new.files) (g.D.Disk.faults c.perform.new.disk) (g.D.Disk.tells c.perform.new.disk) (g.K.Sink.shows c.perform.new.sink) in
    IfOk-follows c.perform.result (λ finish. Ends g.C.Check.name g.C.Check.step c.args.checks.now (asked_by c.in-Some.command) before after finish)
    (λ finish. IsStatus finish.status) c.perform.ensures.ends
    (λ finish ends. status_from finish (ends_as g.C.Check.name g.C.Check.step c.args.checks.now (asked_by c.in-Some.command) before after finish ends))

pub returns-in-Some-clause-clash : goal.returns-in-Some-clause-clash
returns-in-Some-clause-clash g c =
    let before = outside (g.F.Files.shows c.args.files.now) (g.D.Disk.faults c.args.disk.now) (g.D.Disk.tells c.args.disk.now) (g.K.Sink.shows c.args.sink.now) in
    let after = outside (g.F.Files.shows c.perform.new.files) (g.D.Disk.faults c.perform.new.disk) (g.D.Disk.tells c.perform.new.disk) (g.K.Sink.shows c.perform.new.sink) in
    IfOk-follows c.perform.result (λ finish. Ends g.C.Check.name g.C.Check.step c.args.checks.now (asked_by c.in-Some.command) before after finish)
    (λ finish. IsSome finish.clash ↔ (finish.status ≡ 8)) c.perform.ensures.ends
    (λ finish ends. clash_from finish (ends_as g.C.Check.name g.C.Check.step c.args.checks.now (asked_by c.in-Some.command) before after finish ends))

pub returns-in-None-clause-status : goal.returns-in-None-clause-status
returns-in-None-clause-status g c =
    let sink = g.K.Sink.shows in
    IfOk-follows c.tell.result (λ finish. Tells (Refused Usage) finish (sink c.args.sink.now) (sink c.tell.new.sink)) (λ finish. IsStatus finish.status) c.tell.ensures.told
    (λ finish tells. status_from finish (usage_as finish (sink c.args.sink.now) (sink c.tell.new.sink) tells))

pub returns-in-None-clause-clash : goal.returns-in-None-clause-clash
returns-in-None-clause-clash g c =
    let sink = g.K.Sink.shows in
    IfOk-follows c.tell.result (λ finish. Tells (Refused Usage) finish (sink c.args.sink.now) (sink c.tell.new.sink)) (λ finish. IsSome finish.clash ↔ (finish.status ≡ 8))
    c.tell.ensures.told (λ finish tells. clash_from finish (usage_as finish (sink c.args.sink.now) (sink c.tell.new.sink) tells))

pub returns-in-Some-clause-answers : goal.returns-in-Some-clause-answers
returns-in-Some-clause-answers g c =
    let before = outside (g.F.Files.shows c.args.files.now) (g.D.Disk.faults c.args.disk.now) (g.D.Disk.tells c.args.disk.now) (g.K.Sink.shows c.args.sink.now) in
    let after = outside (g.F.Files.shows c.perform.new.files) (g.D.Disk.faults c.perform.new.disk) (g.D.Disk.tells c.perform.new.disk) (g.K.Sink.shows c.perform.new.sink) in
    let asks : Asks c.args.words.now (asked_by c.in-Some.command) = search rules in
    IfOk-follows c.perform.result (λ finish. Ends g.C.Check.name g.C.Check.step c.args.checks.now (asked_by c.in-Some.command) before after finish)
    (λ finish. Answers g.C.Check.name g.C.Check.step c.args.checks.now (call c.args.words.now before after finish)) c.perform.ensures.ends
    (λ finish ends. inr (asked_by c.in-Some.command, asks, ends))

pub returns-in-None-clause-once : goal.returns-in-None-clause-once
returns-in-None-clause-once g c =
    let nothing : AskNothing c.args.words.now = search rules in
    OnOk-always c.tell.result ((AskNoFile c.args.words.now → ⊥) → (g.F.Files.shows c.args.files.now).chosen ≡ next_count (g.F.Files.shows c.args.files.now).chosen)
    (λ needs. absurd (needs (nothing_no_file c.args.words.now nothing)))
