use Rattle.pt_explain.proofs.TallyLemmas.{marked-more}
use Rattle.pt_explain.proofs.explained.explain.Goals as goal

pub loop-place-preserved : goal.loop-place-preserved
loop-place-preserved g c =
    rw (c.in_ok-push.ensures.ok, c.in_ok-push-2.ensures.ok)
    (marked-more (g.C.Check.step c.args.check.now) c.args.rec.now c.loop-place.place c.loop-place.marks c.loop-place.list c.in_ok-marked.marked c.loop-place.invariant
    c.in_ok-marked.ensures)
