use Rattle.std.proofs.Common.{◌≡◌, min, sum_by, take, ◌-◌, ◌^◌}
use Rattle.pt_val.specs.Size.{size_of}
use Rattle.pt_val.proofs.sizing.+size.Given as goal

-- the total of the values so far, if it fits
abbrev pub invariant-total_size-loop-value : goal.invariant-total_size-loop-value
invariant-total_size-loop-value l = l.total ≡ min (sum_by size_of (take l.value-index l.values)) (2 ^ 64 - 1)
