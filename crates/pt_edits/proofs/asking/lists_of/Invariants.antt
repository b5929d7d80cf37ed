use Rattle.std.proofs.Common.{◌≡◌, take}
use Rattle.pt_edits.specs.Readings.{lists_of}
use Rattle.pt_edits.proofs.asking.lists_of.Given as goal

-- the lists of the readings so far
abbrev pub invariant-loop-reading : goal.invariant-loop-reading
invariant-loop-reading l = l.lists ≡ lists_of (take l.reading-index l.reading-items)
