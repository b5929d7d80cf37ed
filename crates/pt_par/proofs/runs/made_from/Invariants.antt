use Rattle.pt_case.specs.Runs.{AreRuns}
use Rattle.pt_par.proofs.runs.made_from.Given as goal

-- the runs so far are made
abbrev pub invariant-loop-run : goal.invariant-loop-run
invariant-loop-run g l = AreRuns (g.C.Check.step l.check) l.seed l.from l.run l.made
