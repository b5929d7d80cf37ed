use Rattle.std.proofs.Common.{◌≡◌, ◌++◌, length, reverse}
use Rattle.std.specs.Vec.Iter.{into_iter_items}
use Rattle.pt_eval.proofs.calling.reverse_members.Given as goal

-- those that are left come behind the reversed ones, the last first
abbrev pub invariant-loop-member : goal.invariant-loop-member
invariant-loop-member l = l.reversed ++ reverse (into_iter_items l.left) ≡ reverse l.fn.members

abbrev pub decreases-loop-member : goal.decreases-loop-member
decreases-loop-member l = length (into_iter_items l.left)
