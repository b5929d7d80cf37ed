use Rattle.std.proofs.Common.{◌≡◌, ◌≤◌, ◌-◌, ◌*◌}
use Rattle.pt_all.proofs.WindowLemmas.{Going}
use Rattle.pt_all.proofs.window.count_window.Given as goal

-- the runs so far are no more than enough
abbrev pub invariant-loop-tally : goal.invariant-loop-tally
invariant-loop-tally g l = Going (g.C.Check.step l.check) l.seed l.runs l.tally × (l.tally.settled ≤ l.runs) × (l.tally.seen ≤ 10 * l.runs) × (l.most ≡ 10 * l.runs)

abbrev pub decreases-loop-tally : goal.decreases-loop-tally
decreases-loop-tally g l = 10 * l.runs - l.tally.seen
