use Rattle.std.proofs.Common.{Some, None, arith}
use Rattle.pt_shrink.proofs.ProgressLemmas.{on-trans}
use Rattle.pt_shrink.proofs.SweepLemmas.{longer, on-found}
use Rattle.pt_shrink.proofs.round.settle.Goals as goal

pub loop-best-preserved : goal.loop-best-preserved
loop-best-preserved g c =
    let found = (on-found (g.C.Check.step c.args.check.now) c.args.budget c.loop-best.best c.loop-best.log c.go_over.new.log c.in_ok-gain.field-0 (Some c.in-Some.gain) c.in-Some.is c.in_ok-gain.ensures.goes_on) in
    let more = longer c.loop-best.log c.go_over.new.log c.in_ok-gain.field-0 (Some c.in-Some.gain) c.in-Some.is c.in_ok-gain.ensures.longer in
    let before = c.loop-best.invariant.0.grows.longer in
    let further = c.in_ok-best.ensures.grows.longer in (
      on-trans (g.C.Check.step c.args.check.now) c.args.budget c.args.first_best c.in-Some.gain.rec _ c.args.log.now c.go_over.new.log _
          (on-trans (g.C.Check.step c.args.check.now) c.args.budget c.args.first_best c.loop-best.best c.in-Some.gain.rec c.args.log.now c.loop-best.log c.go_over.new.log c.loop-best.invariant.0 found) c.in_ok-best.ensures,
      λ improved. omega (arith, more, before, further),
    )

pub returns-clause-goes_on : goal.returns-clause-goes_on
returns-clause-goes_on g c =
    on-trans (g.C.Check.step c.args.check.now) c.args.budget c.args.first_best c.loop-best.best c.loop-best.best c.args.log.now c.loop-best.log c.go_over.new.log c.loop-best.invariant.0
    (on-found (g.C.Check.step c.args.check.now) c.args.budget c.loop-best.best c.loop-best.log c.go_over.new.log c.in_ok-gain.field-0 None c.in_default.is c.in_ok-gain.ensures.goes_on)
