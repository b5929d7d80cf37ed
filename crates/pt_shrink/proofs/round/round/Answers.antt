use Rattle.std.proofs.Common.{arith, inl, inr}
use Rattle.pt_shrink.proofs.ProgressLemmas.{on-trans}
use Rattle.pt_shrink.proofs.round.round.Goals as goal

pub loop-proposer-preserved : goal.loop-proposer-preserved
loop-proposer-preserved g c =
    let before = c.loop-proposer.invariant.0.grows.longer in
    let further = c.in_ok-settled.ensures.goes_on.grows.longer in (
      on-trans (g.C.Check.step c.args.check.now) c.args.budget c.args.first_best c.loop-proposer.best _ c.args.log.now c.loop-proposer.log _ c.loop-proposer.invariant.0 c.in_ok-settled.ensures.goes_on,
      λ improved. elim (c.either-improved.ensures improved) [
        | inl one ↦ (let more = c.loop-proposer.invariant.1 one in omega (arith, more, further))
        | inr other ↦ (let more = c.in_ok-settled.ensures.longer other in omega (arith, more, before))
      ],
    )
