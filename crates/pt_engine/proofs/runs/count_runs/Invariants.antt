use Rattle.std.proofs.Common.{◌≡◌, ◌<◌, ◌≤◌, ◌-◌, ◌*◌}
use Rattle.pt_engine.proofs.CountLemmas.{Going}
use Rattle.pt_engine.proofs.runs.count_runs.Given as goal

-- the runs so far decide nothing
abbrev pub invariant-loop-tally : goal.invariant-loop-tally
invariant-loop-tally g l = Going (g.C.Check.step l.check) l.seed l.runs l.tally × (1 ≤ l.size) × (l.size ≤ 256)
    × (l.tally.valid ≤ l.tally.seen) × (l.tally.seen ≤ 10 * l.runs) × (l.most ≡ 10 * l.runs)
    × (l.tally.valid < l.runs)

abbrev pub decreases-loop-tally : goal.decreases-loop-tally
decreases-loop-tally g l = 10 * l.runs - l.tally.seen
