use Rattle.pt_run.proofs.Crashes.{left-since, left-at-exit, left-at-end, short-since, short-at-exit}
use Rattle.pt_run.proofs.laws.what_survives_a_crash.Goals as goal

pub returns-clause-since : goal.returns-clause-since
returns-clause-since g c = λ call file seed workers old new image answers asks told telling tidy since.
    left-since g.C.Check.name g.C.Check.step c.args.checks.now old new image tidy call file seed workers answers asks told telling since

pub returns-clause-exit : goal.returns-clause-exit
returns-clause-exit g c = λ call file seed workers old new image answers asks told telling tidy is.
    left-at-exit g.C.Check.name g.C.Check.step c.args.checks.now old new image tidy call file seed workers answers asks told telling is

pub returns-clause-end : goal.returns-clause-end
returns-clause-end g c = λ call file seed workers old new image answers asks below told telling tidy is.
    left-at-end g.C.Check.name g.C.Check.step c.args.checks.now old new image tidy call file seed workers answers asks told telling below is

pub returns-clause-short_since : goal.returns-clause-short_since
returns-clause-short_since g c = λ words before after file seed workers old new image short asks told telling tidy since.
    short-since g.C.Check.name g.C.Check.step c.args.checks.now old new image tidy words before after file seed workers short asks told telling since

pub returns-clause-short_exit : goal.returns-clause-short_exit
returns-clause-short_exit g c = λ words before after file seed workers old new image short asks told telling tidy is.
    short-at-exit g.C.Check.name g.C.Check.step c.args.checks.now old new image tidy words before after file seed workers short asks told telling is
