use Rattle.std.proofs.Common.{◌≡◌, take}
use Rattle.pt_val.proofs.val.+copy.Given as goal

-- the values so far are copied
abbrev pub invariant-copy_all-loop-value : goal.invariant-copy_all-loop-value
invariant-copy_all-loop-value l = l.copies ≡ take l.value-index l.value-items
