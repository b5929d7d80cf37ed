use Rattle.std.proofs.Common.{Some, None}
use Rattle.pt_shrink.proofs.ProgressLemmas.{on-trans}
use Rattle.pt_shrink.proofs.SweepLemmas.{on-found}
use Rattle.pt_shrink.proofs.leap.reach.Goals as goal

pub returns-in-Some-clause-goes_on : goal.returns-in-Some-clause-goes_on
returns-in-Some-clause-goes_on g c =
    on-trans (g.C.Check.step c.args.check.now) c.args.budget c.args.best.now c.args.best.now c.in-Some.gain.rec c.args.log.now c.loop-factor.log c.step.new.log c.loop-factor.invariant
    (on-found (g.C.Check.step c.args.check.now) c.args.budget c.args.best.now c.loop-factor.log c.step.new.log c.in_ok-gain.field-0 (Some c.in-Some.gain) c.in-Some.is c.in_ok-gain.ensures.goes_on)

pub loop-factor-preserved : goal.loop-factor-preserved
loop-factor-preserved g c =
    on-trans (g.C.Check.step c.args.check.now) c.args.budget c.args.best.now c.args.best.now c.args.best.now c.args.log.now c.loop-factor.log c.step.new.log c.loop-factor.invariant
    (on-found (g.C.Check.step c.args.check.now) c.args.budget c.args.best.now c.loop-factor.log c.step.new.log c.in_ok-gain.field-0 None c.in_default.is c.in_ok-gain.ensures.goes_on)
