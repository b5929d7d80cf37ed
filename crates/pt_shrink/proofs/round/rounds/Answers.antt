use Rattle.pt_shrink.proofs.ProgressLemmas.{on-trans}
use Rattle.pt_shrink.proofs.round.rounds.Goals as goal

pub returns-then-not-settled : goal.returns-then-not-settled
returns-then-not-settled g c =
    on-trans (g.C.Check.step c.args.check.now) c.args.budget c.args.first_best _ _ c.args.log.now c.loop-settled.log _ c.loop-settled.invariant c.in_ok-settled.ensures.goes_on

pub loop-settled-preserved : goal.loop-settled-preserved
loop-settled-preserved g c =
    on-trans (g.C.Check.step c.args.check.now) c.args.budget c.args.first_best _ _ c.args.log.now c.loop-settled.log _ c.loop-settled.invariant c.in_ok-settled.ensures.goes_on
