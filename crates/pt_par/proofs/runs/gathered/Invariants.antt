use Rattle.std.proofs.Common.{◌+◌, ◌*◌, length}
use Rattle.std.specs.Prelude.{min}
use Rattle.pt_case.specs.Runs.{AreRuns}
use Rattle.pt_par.proofs.runs.gathered.Given as goal

-- the shares so far stand one after another
abbrev pub invariant-loop-made : goal.invariant-loop-made
invariant-loop-made g l = AreRuns (g.C.Check.step l.check) l.seed l.from (min l.to (l.from + length l.yielded * l.size)) l.records
