use Rattle.pt_turns.proofs.SoundLemmas.{nothing-lost, nothing-invented, nothing-else}
use Rattle.pt_turns.proofs.laws.a_run_loses_and_invents_nothing.Goals as goal

pub returns-clause-lost : goal.returns-clause-lost
returns-clause-lost g c = nothing-lost g.C.Check.name g.C.Check.step c.args.checks.now

pub returns-clause-invented : goal.returns-clause-invented
returns-clause-invented g c = nothing-invented g.C.Check.name g.C.Check.step c.args.checks.now

pub returns-clause-others : goal.returns-clause-others
returns-clause-others g c = nothing-else g.C.Check.name g.C.Check.step c.args.checks.now
