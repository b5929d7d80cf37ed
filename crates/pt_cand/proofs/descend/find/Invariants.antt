use Rattle.std.proofs.Common.{◌≡◌}
use Rattle.pt_cand.specs.declared.pass.Pass.TheVariants.{Descend}
use Rattle.pt_cand.specs.Left.{left_of}
use Rattle.pt_cand.specs.Walk.{past}
use Rattle.pt_cand.proofs.descend.find.Given as goal

abbrev pub invariant-loop-inner : goal.invariant-loop-inner
invariant-loop-inner l = (l.spans ≡ l.best.spans) × (left_of Descend l.best l.at ≡ left_of Descend l.best (past l.at l.inner))
