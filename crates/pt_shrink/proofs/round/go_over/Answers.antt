use Rattle.pt_shrink.proofs.ProgressLemmas.{on-trans, grows-trans}
use Rattle.pt_shrink.proofs.BlockLemmas.{tried-none, tried-some}
use Rattle.pt_shrink.proofs.round.go_over.Goals as goal

pub returns-in-Some-clause-goes_on : goal.returns-in-Some-clause-goes_on
returns-in-Some-clause-goes_on g c =
    on-trans (g.C.Check.step c.args.check.now) c.args.budget c.args.best.now c.args.best.now _ c.args.log.now c.loop-slots.log _ c.loop-slots.invariant.0 (record {
      fails = λ fails. c.in_ok-heed.ensures.fails;
      grows = grows-trans c.args.budget c.loop-slots.log c.try_block.new.log _ c.in_ok-hit.ensures.grows c.in_ok-heed.ensures.grows;
      reached = λ first at. c.in_ok-heed.ensures.reached first
          (tried-some (g.C.Check.step c.args.check.now) c.args.budget first c.args.best.now c.try_block.new.log c.in_ok-hit.field-0 c.in-Some.hit c.in-Some.is (c.in_ok-hit.ensures.reached first at));
    })

pub loop-slots-preserved : goal.loop-slots-preserved
loop-slots-preserved g c = (
  on-trans (g.C.Check.step c.args.check.now) c.args.budget c.args.best.now c.args.best.now c.args.best.now c.args.log.now c.loop-slots.log c.try_block.new.log c.loop-slots.invariant.0 (record {
    fails = λ fails. fails;
    grows = c.in_ok-hit.ensures.grows;
    reached = λ first at. tried-none (g.C.Check.step c.args.check.now) c.args.budget first c.args.best.now c.try_block.new.log c.in_ok-hit.field-0 c.in_default.is (c.in_ok-hit.ensures.reached first at);
  }),
  c.in_ok-block.ensures.honest,
)
