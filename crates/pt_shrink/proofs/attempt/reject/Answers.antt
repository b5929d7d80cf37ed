use Rattle.pt_shrink.proofs.ProgressLemmas.{rejected, strayed}
use Rattle.pt_shrink.proofs.attempt.reject.Goals as goal

pub returns-then-stranger-clause-reached : goal.returns-then-stranger-clause-reached
returns-then-stranger-clause-reached g c = λ budget first room reached.
    strayed (g.C.Check.step c.args.check.now) budget first c.args.best.now c.args.log.now c.args.list c.add.new.self c.requires.worse (c.requires.may c.if-stranger.true) c.in_ok-add.ensures.ok c.requires.untried room reached

pub returns-clause-reached : goal.returns-clause-reached
returns-clause-reached g c = λ budget first room reached.
    rejected (g.C.Check.step c.args.check.now) budget first c.args.best.now c.args.log.now c.args.list c.add.new.self c.requires.worse (c.requires.known c.if-stranger.false) c.in_ok-add.ensures.ok c.requires.untried room reached
