use Rattle.std.proofs.Common.{◌≡◌, length, take}
use Rattle.pt_val.proofs.equality.+same.Given as goal

-- the two lists are equal so far
abbrev pub invariant-all_same-loop-one : goal.invariant-all_same-loop-one
invariant-all_same-loop-one l = take (length l.yielded) l.left ≡ take (length l.yielded) l.right
