use Rattle.std.proofs.Common.{◌≤◌, length}
use Rattle.pt_shrink.specs.Block.{IsBlock}
use Rattle.pt_shrink.specs.Proposed.{AreHonest, slots_left}
use Rattle.pt_shrink.proofs.block.gather.Given as goal

abbrev pub invariant-loop-alloc : goal.invariant-loop-alloc
invariant-loop-alloc l = AreHonest l.best l.slots × IsBlock l.best l.log l.block × (length l.block.lists ≤ l.room)

abbrev pub decreases-loop-alloc : goal.decreases-loop-alloc
decreases-loop-alloc l = slots_left l.slots
