use Rattle.std.proofs.Common.{◌∙◌}
use Rattle.pt_check.proofs.Tuples.{parts-within, part-step}
use Rattle.pt_check.proofs.checker.part_at.Goals as goal

pub loop-left-preserved : goal.loop-left-preserved
loop-left-preserved c =
    let so = c.loop-left.invariant in (
      (parts-within c.args.types.now c.shape.result c.in-Tuple.field-0 c.in-Tuple.others c.in-Tuple.is c.shape.ensures.within).1,
      so.1 ∙ part-step c.args.types.now c.loop-left.left c.loop-left.behind c.in-Tuple.field-0 c.in-Tuple.others c.shape.result c.loop-left-test.true c.shape.ensures.shape c.in-Tuple.is,
    )

pub returns-in-Tuple-shape-clause-within : goal.returns-in-Tuple-shape-clause-within
returns-in-Tuple-shape-clause-within c =
    (parts-within c.args.types.now c.shape-2.result c.in-Tuple-shape.first c.in-Tuple-shape.field-1 c.in-Tuple-shape.is c.shape-2.ensures.within).0
