use Rattle.pt_shrink.proofs.ProgressLemmas.{accepted}
use Rattle.pt_shrink.proofs.attempt.accept.Goals as goal

pub returns-clause-reached : goal.returns-clause-reached
returns-clause-reached g c = λ budget first room reached.
    accepted (g.C.Check.step c.args.check.now) budget first c.args.best.now c.args.rec.now c.args.log.now c.args.list c.add.new.self c.requires.is c.requires.better c.in_ok-add.ensures.ok c.requires.untried room reached
