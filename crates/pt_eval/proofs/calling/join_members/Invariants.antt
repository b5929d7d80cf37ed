use Rattle.std.proofs.Common.{◌≡◌, ◌++◌}
use Rattle.pt_eval.proofs.calling.join_members.Given as goal

-- the members so far are appended
abbrev pub invariant-loop-member : goal.invariant-loop-member
invariant-loop-member l = l.members ≡ l.fn.members ++ l.yielded
