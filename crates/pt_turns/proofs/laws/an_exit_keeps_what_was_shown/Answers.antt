use Rattle.pt_turns.proofs.ExitLemmas.{exit-kept, exit-midway, end-exit}
use Rattle.pt_turns.proofs.laws.an_exit_keeps_what_was_shown.Goals as goal

pub returns-clause-kept : goal.returns-clause-kept
returns-clause-kept g c = exit-kept g.C.Check.name g.C.Check.step c.args.checks.now

pub returns-clause-midway : goal.returns-clause-midway
returns-clause-midway g c = exit-midway g.C.Check.name g.C.Check.step c.args.checks.now

pub returns-clause-end : goal.returns-clause-end
returns-clause-end g c = end-exit g.C.Check.name g.C.Check.step c.args.checks.now
