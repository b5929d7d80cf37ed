-- What the files and outputs of the machine show: their counts, and nothing of what they hold.
use Rattle.std.specs.Prelude.{ℕ, false, None}
use Rattle.pt_io.specs.Files.{Shown}
use Rattle.pt_io.specs.Sink.{Written}

abbrev pub untold_files : ℕ → ℕ → Shown
untold_files faults chosen = record { faults = faults; chosen = chosen; named = None; left = None; steady = false }

abbrev pub untold_sink : ℕ → Written
untold_sink faults = record { faults = faults; bytes = None }
