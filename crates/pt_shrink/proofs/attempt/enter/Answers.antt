use Rattle.pt_shrink.proofs.ProgressLemmas.{better-by_record, worse-by_record}
use Rattle.pt_shrink.proofs.attempt.enter.Goals as goal

pub accept-requires-clause-better : goal.accept-requires-clause-better
accept-requires-clause-better g c κs within =
    better-by_record (g.C.Check.step c.args.check.now) c.args.list c.args.best.now c.in_ok-rec.rec c.requires.fails c.in_ok-rec.ensures (c.improves.ensures.0 c.if-improves.true)

pub reject-requires-clause-worse : goal.reject-requires-clause-worse
reject-requires-clause-worse g c κs within =
    worse-by_record (g.C.Check.step c.args.check.now) c.args.list c.args.best.now c.in_ok-rec.rec c.in_ok-rec.ensures (λ improved. let t = c.improves.ensures.1 improved in let f = c.if-improves.false in cc)
