use Rattle.pt_turns.proofs.ExitLemmas.{finished-end, finished-exit, stopped-exit}
use Rattle.pt_turns.proofs.laws.an_exit_leaves_the_turns.Goals as goal

pub returns-clause-whole : goal.returns-clause-whole
returns-clause-whole g c = λ seed items reported old new start end image finishes below from to tidy is.
    finished-end g.C.Check.name g.C.Check.step c.args.checks.now seed items start end image tidy is old new from to reported finishes below

pub returns-clause-ended : goal.returns-clause-ended
returns-clause-ended g c = λ seed items reported old new start end image finishes from to tidy is.
    finished-exit g.C.Check.name g.C.Check.step c.args.checks.now seed items start end image tidy is old new from to reported finishes

pub returns-clause-short : goal.returns-clause-short
returns-clause-short g c = λ seed items old new start end image short from to tidy is.
    stopped-exit g.C.Check.name g.C.Check.step c.args.checks.now seed items start end image tidy is old new from to short
