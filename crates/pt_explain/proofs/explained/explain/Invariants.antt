use Rattle.pt_explain.specs.Tally.{AreMarked}
use Rattle.pt_explain.proofs.explained.explain.Given as goal

abbrev pub invariant-loop-place : goal.invariant-loop-place
invariant-loop-place g l = AreMarked (g.C.Check.step l.check) l.rec l.place l.marks l.list
