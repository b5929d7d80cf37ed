use Rattle.std.proofs.Common.{◌≡◌, ◌≤◌, ◌+◌, ◌++◌, List, take}
use Rattle.pt_case.specs.declared.record.Record.{Record}
use Rattle.pt_engine.specs.Outcome.{AreOpen}
use Rattle.pt_engine.specs.Progress.{IsCount}
use Rattle.pt_engine.proofs.tally.count.Given as goal

-- the runs so far are counted, and decide nothing
abbrev pub invariant-loop-rec : goal.invariant-loop-rec
invariant-loop-rec l = (l.tally.seen ≡ l.fn.tally.seen + l.rec-index) × (l.tally.valid ≤ l.tally.seen)
    × ((before : List Record) → AreOpen l.runs before → IsCount before l.fn.tally →
    AreOpen l.runs (before ++ take l.rec-index l.block) × IsCount (before ++ take l.rec-index l.block) l.tally)
