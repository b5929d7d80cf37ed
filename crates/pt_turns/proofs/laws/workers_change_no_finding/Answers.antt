use Rattle.std.proofs.Common.{[]}
use Rattle.pt_turns.proofs.AgreeLemmas.{examined-agree}
use Rattle.pt_turns.proofs.OwnLemmas.{turns-agree}
use Rattle.pt_turns.proofs.laws.workers_change_no_finding.Goals as goal

pub returns-clause-made : goal.returns-clause-made
returns-clause-made g c = examined-agree g.C.Check.name g.C.Check.step c.args.checks.now c.requires

pub returns-clause-run : goal.returns-clause-run
returns-clause-run g c = λ seed told telling items one other edits more same.
    turns-agree c.one_list.ensures.unpacked g.C.Check.name g.C.Check.step c.args.checks.now c.requires seed told telling same [] [] [] items one other edits
    more tt tt
