use Rattle.std.proofs.Common.{◌≤◌, length}
use Rattle.pt_case.specs.Placed.{ArePlaced}
use Rattle.tests_reduction.proofs.made.spans_of.Given as goal

abbrev pub invariant-loop-row : goal.invariant-loop-row
invariant-loop-row l = (length l.spans ≤ 1024) × ArePlaced l.count l.spans
