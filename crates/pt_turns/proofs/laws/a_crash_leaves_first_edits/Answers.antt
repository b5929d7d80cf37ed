use Rattle.pt_turns.proofs.CrashLemmas.{finished-left, stopped-left}
use Rattle.pt_turns.proofs.laws.a_crash_leaves_first_edits.Goals as goal

pub returns-clause-ended : goal.returns-clause-ended
returns-clause-ended g c = λ seed items reported old new start end image finishes from to tidy since.
    finished-left g.C.Check.name g.C.Check.step c.args.checks.now seed items start end image tidy since old new from to reported finishes

pub returns-clause-short : goal.returns-clause-short
returns-clause-short g c = λ seed items old new start end image short from to tidy since.
    stopped-left g.C.Check.name g.C.Check.step c.args.checks.now seed items start end image tidy since old new from to short
