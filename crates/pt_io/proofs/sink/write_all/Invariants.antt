use Rattle.std.proofs.Common.{◌≡◌, length, ◌-◌, ◌≤◌, take}
use Rattle.pt_io.specs.Sink.{Appends}
use Rattle.pt_io.proofs.sink.write_all.Given as goal

-- the first part is written
abbrev pub invariant-loop-done : goal.invariant-loop-done
invariant-loop-done g l =
    let shows = g.K.Sink.shows in
    record {
      within : l.done ≤ length l.from;
      written : Appends (shows l.fn.sink).bytes (take l.done l.from) (shows l.sink).bytes;
      quiet : (shows l.sink).faults ≡ (shows l.fn.sink).faults;
    }

abbrev pub decreases-loop-done : goal.decreases-loop-done
decreases-loop-done g l = length l.from - l.done
