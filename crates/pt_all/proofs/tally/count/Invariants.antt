use Rattle.std.proofs.Common.{◌++◌, List, take}
use Rattle.pt_case.specs.declared.record.Record.{Record}
use Rattle.pt_all.specs.Progress.{IsCount}
use Rattle.pt_all.proofs.tally.count.Given as goal

-- the runs so far are counted
abbrev pub invariant-loop-rec : goal.invariant-loop-rec
invariant-loop-rec l = (before : List Record) → IsCount before l.fn.tally → IsCount (before ++ take l.rec-index l.block) l.tally
