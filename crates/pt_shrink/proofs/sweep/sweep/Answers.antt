use Rattle.std.proofs.Common.{◌∷◌, [], refl}
use Rattle.std.specs.List.{Contains}
use Rattle.pt_cand.specs.Candidates.{candidates_of}
use Rattle.pt_cand.specs.declared.pass.Pass.TheVariants.{DeleteSpan, Descend, LowerOne, LowerPair, SwapSiblings, LowerDelete, Shift}
use Rattle.pt_shrink.specs.declared.sweep.Swept.TheVariants.{Done}
use Rattle.pt_shrink.proofs.ProgressLemmas.{on-same, on-trans}
use Rattle.pt_shrink.proofs.SweepLemmas.{swept, on-swept, sweep-ended, passes-more, passes-all, not_among}
use Rattle.pt_shrink.proofs.sweep.sweep.Goals as goal

pub loop-pass-init : goal.loop-pass-init
loop-pass-init g c = (refl, (λ pass none. not_among pass none), on-same (g.C.Check.step c.args.check.now) c.args.budget c.args.best.now c.args.log.now)

pub returns-in_default : goal.returns-in_default
returns-in_default g c = record {
  goes_on = on-trans (g.C.Check.step c.args.check.now) c.args.budget c.args.best.now c.args.best.now _ c.args.log.now c.loop-pass.log c.sweep_pass.new.log c.loop-pass.invariant.2 c.in_ok-ended.ensures.goes_on;
  sweeps = sweep-ended c.args.budget c.args.best.now _ c.args.log.now c.loop-pass.log c.sweep_pass.new.log c.in_ok-ended.ended c.in_default.not-Done c.loop-pass.invariant.2.grows c.in_ok-ended.ensures.sweeps;
}

pub loop-pass-preserved : goal.loop-pass-preserved
loop-pass-preserved g c =
    let sweeps = swept c.args.budget (Contains (candidates_of _ c.args.best.now)) c.loop-pass.log c.sweep_pass.new.log c.in_ok-ended.ended Done c.in-Done.is c.in_ok-ended.ensures.sweeps in
    let on = on-swept (g.C.Check.step c.args.check.now) c.args.budget c.args.best.now c.loop-pass.log c.sweep_pass.new.log c.in_ok-ended.ended Done c.in-Done.is c.in_ok-ended.ensures.goes_on in (
      c.loop-pass.invariant.0,
      passes-more c.args.budget c.args.best.now (DeleteSpan ∷ Descend ∷ LowerOne ∷ LowerPair ∷ SwapSiblings ∷ LowerDelete ∷ Shift ∷ []) c.loop-pass.pass-index DeleteSpan c.loop-pass.log c.sweep_pass.new.log c.loop-pass-test.true c.loop-pass.invariant.1 on.grows sweeps,
      on-trans (g.C.Check.step c.args.check.now) c.args.budget c.args.best.now c.args.best.now c.args.best.now c.args.log.now c.loop-pass.log c.sweep_pass.new.log c.loop-pass.invariant.2 on,
    )

pub returns-clause-goes_on : goal.returns-clause-goes_on
returns-clause-goes_on g c = c.loop-pass.invariant.2

pub returns-clause-sweeps : goal.returns-clause-sweeps
returns-clause-sweeps g c = passes-all c.args.best.now (DeleteSpan ∷ Descend ∷ LowerOne ∷ LowerPair ∷ SwapSiblings ∷ LowerDelete ∷ Shift ∷ []) c.loop-pass.pass-index c.loop-pass.log c.loop-pass.invariant.0 c.loop-pass-test.false c.loop-pass.invariant.1
