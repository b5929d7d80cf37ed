use Rattle.std.proofs.Common.{ap, arith, length}
use Rattle.pt_shrink.proofs.block.gather.Goals as goal

pub loop-alloc-init : goal.loop-alloc-init
loop-alloc-init c = (c.requires.honest, c.empty-block.ensures.block c.args.best.now c.args.log.now, (let none = ap length c.empty-block.ensures.empty in omega (arith, none)))
