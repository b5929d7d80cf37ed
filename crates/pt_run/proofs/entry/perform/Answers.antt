use Rattle.std.proofs.Common.{[], IfOk, refl, sym, subst}
use Rattle.pt_commands.specs.Command.{asked_by}
use Rattle.pt_run.specs.Ends.{Ends}
use Rattle.pt_run.specs.Outside.{outside}
use Rattle.pt_commands.specs.declared.command.Command.{Command}
use Rattle.pt_commands.proofs.Asking.{stored_no_file, make_no_file}
use Rattle.pt_run.proofs.Performing.{asks_of, err-both, err-settled, run-short}
use Rattle.pt_run.proofs.entry.perform.Goals as goal

pub returns-in-Run-clause-ends : goal.returns-in-Run-clause-ends
returns-in-Run-clause-ends g c =
    subst (λ (command : Command). IfOk c.run.result (λ finish. Ends g.C.Check.name g.C.Check.step c.args.checks.now (asked_by command)
    (outside (g.F.Files.shows c.args.files.now) (g.D.Disk.faults c.args.disk.now) (g.D.Disk.tells c.args.disk.now) (g.K.Sink.shows c.args.sink.now))
    (outside (g.F.Files.shows c.run.new.files) (g.D.Disk.faults c.run.new.disk) (g.D.Disk.tells c.run.new.disk) (g.K.Sink.shows c.run.new.sink)) finish))
    (sym c.in-Run.is) c.run.ensures.ends

pub returns-in-Run-clause-short : goal.returns-in-Run-clause-short
returns-in-Run-clause-short g c =
    run-short g.C.Check.name g.C.Check.step c.args.checks.now c.run.result c.args.words.now
    (outside (g.F.Files.shows c.args.files.now) (g.D.Disk.faults c.args.disk.now) (g.D.Disk.tells c.args.disk.now) (g.K.Sink.shows c.args.sink.now))
    (outside (g.F.Files.shows c.run.new.files) (g.D.Disk.faults c.run.new.disk) (g.D.Disk.tells c.run.new.disk) (g.K.Sink.shows c.run.new.sink)) _ _ _ _ _
    (asks_of c.args.words.now c.args.command _ c.in-Run.is c.requires) c.run.ensures.short

pub returns-in-Run-clause-untouched : goal.returns-in-Run-clause-untouched
returns-in-Run-clause-untouched g c outside_all =
    absurd ((outside_all c.in-Run.suite.now [] c.in-Run.seed c.in-Run.workers []).0 (asks_of c.args.words.now c.args.command _ c.in-Run.is c.requires))

pub returns-in-Run-clause-undisturbed : goal.returns-in-Run-clause-undisturbed
returns-in-Run-clause-undisturbed g c outside_all =
    absurd ((outside_all c.in-Run.suite.now c.in-Run.seed c.in-Run.workers).0 (asks_of c.args.words.now c.args.command _ c.in-Run.is c.requires))

pub returns-in-Replay-clause-ends : goal.returns-in-Replay-clause-ends
returns-in-Replay-clause-ends g c =
    subst (λ (command : Command). IfOk c.show.result (λ finish. Ends g.C.Check.name g.C.Check.step c.args.checks.now (asked_by command)
    (outside (g.F.Files.shows c.args.files.now) (g.D.Disk.faults c.args.disk.now) (g.D.Disk.tells c.args.disk.now) (g.K.Sink.shows c.args.sink.now))
    (outside (g.F.Files.shows c.show.new.files) (g.D.Disk.faults c.args.disk.now) (g.D.Disk.tells c.args.disk.now) (g.K.Sink.shows c.show.new.sink)) finish))
    (sym c.in-Replay.is) (c.show.ensures.ends (g.D.Disk.faults c.args.disk.now) (g.D.Disk.tells c.args.disk.now))

pub returns-in-Replay-clause-short : goal.returns-in-Replay-clause-short
returns-in-Replay-clause-short g c = err-both c.show.result _ _ _ c.show.ensures.nothing refl

pub returns-in-Replay-clause-untouched : goal.returns-in-Replay-clause-untouched
returns-in-Replay-clause-untouched g c outside_all =
    absurd ((outside_all c.in-Replay.suite.now c.in-Replay.item.now 0 0 c.in-Replay.list).1 (asks_of c.args.words.now c.args.command _ c.in-Replay.is c.requires))

pub returns-in-Stored-clause-ends : goal.returns-in-Stored-clause-ends
returns-in-Stored-clause-ends g c =
    subst (λ (command : Command). IfOk c.list-in-Stored.result (λ finish. Ends g.C.Check.name g.C.Check.step c.args.checks.now (asked_by command)
    (outside (g.F.Files.shows c.args.files.now) (g.D.Disk.faults c.args.disk.now) (g.D.Disk.tells c.args.disk.now) (g.K.Sink.shows c.args.sink.now))
    (outside (g.F.Files.shows c.args.files.now) (g.D.Disk.faults c.list-in-Stored.new.disk) (g.D.Disk.tells c.list-in-Stored.new.disk) (g.K.Sink.shows c.list-in-Stored.new.sink)) finish))
    (sym c.in-Stored.is) c.list-in-Stored.ensures.lists

pub returns-in-Stored-clause-short : goal.returns-in-Stored-clause-short
returns-in-Stored-clause-short g c =
    err-settled c.list-in-Stored.result _ _ _ _ _ _ (asks_of c.args.words.now c.args.command _ c.in-Stored.is c.requires) c.list-in-Stored.ensures.nothing c.list-in-Stored.ensures.settled
    c.list-in-Stored.ensures.quiet

pub returns-in-Stored-clause-undisturbed : goal.returns-in-Stored-clause-undisturbed
returns-in-Stored-clause-undisturbed g c outside_all = absurd ((outside_all [] 0 0).1 (asks_of c.args.words.now c.args.command _ c.in-Stored.is c.requires))

pub returns-in-Stored-clause-once : goal.returns-in-Stored-clause-once
returns-in-Stored-clause-once g c needs =
    absurd (needs (stored_no_file c.args.words.now (asks_of c.args.words.now c.args.command _ c.in-Stored.is c.requires)))

pub returns-in-Make-clause-ends : goal.returns-in-Make-clause-ends
returns-in-Make-clause-ends g c =
    subst (λ (command : Command). IfOk c.make.result (λ finish. Ends g.C.Check.name g.C.Check.step c.args.checks.now (asked_by command)
    (outside (g.F.Files.shows c.args.files.now) (g.D.Disk.faults c.args.disk.now) (g.D.Disk.tells c.args.disk.now) (g.K.Sink.shows c.args.sink.now))
    (outside (g.F.Files.shows c.args.files.now) (g.D.Disk.faults c.args.disk.now) (g.D.Disk.tells c.args.disk.now) (g.K.Sink.shows c.make.new.sink)) finish))
    (sym c.in-Make.is) c.make.ensures.sums

pub returns-in-Make-clause-short : goal.returns-in-Make-clause-short
returns-in-Make-clause-short g c = err-both c.make.result _ _ _ c.make.ensures.nothing refl

pub returns-in-Make-clause-once : goal.returns-in-Make-clause-once
returns-in-Make-clause-once g c needs =
    absurd (needs (make_no_file c.args.words.now c.in-Make.seed c.in-Make.count (asks_of c.args.words.now c.args.command _ c.in-Make.is c.requires)))

pub returns-in-Explain-clause-ends : goal.returns-in-Explain-clause-ends
returns-in-Explain-clause-ends g c =
    subst (λ (command : Command). IfOk c.explain_on.result (λ finish. Ends g.C.Check.name g.C.Check.step c.args.checks.now (asked_by command)
    (outside (g.F.Files.shows c.args.files.now) (g.D.Disk.faults c.args.disk.now) (g.D.Disk.tells c.args.disk.now) (g.K.Sink.shows c.args.sink.now))
    (outside (g.F.Files.shows c.explain_on.new.files) (g.D.Disk.faults c.args.disk.now) (g.D.Disk.tells c.args.disk.now) (g.K.Sink.shows c.explain_on.new.sink)) finish))
    (sym c.in-Explain.is) (c.explain_on.ensures.ends (g.D.Disk.faults c.args.disk.now) (g.D.Disk.tells c.args.disk.now))

pub returns-in-Explain-clause-short : goal.returns-in-Explain-clause-short
returns-in-Explain-clause-short g c = err-both c.explain_on.result _ _ _ c.explain_on.ensures.nothing refl

pub returns-in-Explain-clause-untouched : goal.returns-in-Explain-clause-untouched
returns-in-Explain-clause-untouched g c outside_all =
    absurd ((outside_all c.in-Explain.suite.now c.in-Explain.item.now 0 0 c.in-Explain.list).2 (asks_of c.args.words.now c.args.command _ c.in-Explain.is c.requires))
