use Rattle.std.proofs.Common.{◌≡◌, length}
use Rattle.std.specs.List.{All}
use Rattle.pt_all.specs.Survey.{ReplaysItself}
use Rattle.pt_all.proofs.ReducedLemmas.{AreReduced}
use Rattle.pt_all.proofs.reductions.reduce_all.Given as goal

-- the failures so far were reduced
abbrev pub invariant-loop-first : goal.invariant-loop-first
invariant-loop-first g l = record {
  one_each : length l.faults ≡ length l.yielded;
  each : AreReduced (g.C.Check.step l.check) l.budget l.yielded l.faults;
  replays : All (ReplaysItself (g.C.Check.step l.check)) l.faults;
}
