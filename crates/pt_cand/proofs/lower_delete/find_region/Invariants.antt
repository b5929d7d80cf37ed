use Rattle.std.proofs.Common.{◌≡◌}
use Rattle.pt_cand.specs.declared.pass.Pass.TheVariants.{LowerDelete}
use Rattle.pt_cand.specs.Left.{left_of}
use Rattle.pt_cand.specs.Walk.{past}
use Rattle.pt_cand.proofs.lower_delete.find_region.Given as goal

abbrev pub invariant-loop-number : goal.invariant-loop-number
invariant-loop-number l = (l.spans ≡ l.best.spans) × (left_of LowerDelete l.best l.at ≡ left_of LowerDelete l.best (past l.at l.number))
