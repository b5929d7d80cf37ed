use Rattle.std.proofs.Common.{◌≡◌, pos, drop}
use Rattle.pt_eval.specs.Calls.{total}
use Rattle.pt_eval.proofs.calling.total.Given as goal

-- the sum of all is that of these and then the rest
abbrev pub invariant-loop-member : goal.invariant-loop-member
invariant-loop-member l = total l.at (pos 0) l.numbers ≡ total l.at l.so_far (drop l.member-index l.numbers)
