use Rattle.std.proofs.Common.{◌≡◌, List, take}
use Rattle.pt_case.specs.declared.record.Record.{Record}
use Rattle.pt_engine.specs.Outcome.{AreRecords, flags_of}
use Rattle.pt_engine.specs.Progress.{IsLeastOf}
use Rattle.pt_engine.proofs.stored.replay_stored.Given as goal

-- the lists so far were replayed
abbrev pub invariant-loop-list : goal.invariant-loop-list
invariant-loop-list g l = (records : List Record) × AreRecords (g.C.Check.step l.check) (take l.list-index l.stored) records
    × (l.failing ≡ flags_of records) × IsLeastOf records l.least
