use Rattle.std.proofs.Common.{Some, None}
use Rattle.pt_shrink.proofs.ProgressLemmas.{on-trans}
use Rattle.pt_shrink.proofs.SweepLemmas.{on-found}
use Rattle.pt_shrink.proofs.leap.leap.Goals as goal

pub loop-best-preserved : goal.loop-best-preserved
loop-best-preserved g c =
    on-trans (g.C.Check.step c.args.check.now) c.args.budget c.args.gain.rec c.loop-best.best c.in-Some.further.rec c.args.log.now c.loop-best.log c.reach.new.log c.loop-best.invariant
    (on-found (g.C.Check.step c.args.check.now) c.args.budget c.loop-best.best c.loop-best.log c.reach.new.log c.in_ok-further.field-0 (Some c.in-Some.further) c.in-Some.is c.in_ok-further.ensures.goes_on)

pub returns : goal.returns
returns g c =
    on-trans (g.C.Check.step c.args.check.now) c.args.budget c.args.gain.rec c.loop-best.best c.loop-best.best c.args.log.now c.loop-best.log c.reach.new.log c.loop-best.invariant
    (on-found (g.C.Check.step c.args.check.now) c.args.budget c.loop-best.best c.loop-best.log c.reach.new.log c.in_ok-further.field-0 None c.in_default.is c.in_ok-further.ensures.goes_on)
