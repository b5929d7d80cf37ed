-- What contracts see of a sink in memory.
use Rattle.std.specs.Prelude.{ℕ, List, ◌++◌, Contains, Some}
use Rattle.pt_io.specs.Sink.{Written}
use Rattle.pt_choice.specs.Faults.{next_count}

-- what was written, the calls that are to fail, how many calls there were, how many failed, and how many found no memory
pub record SinkInMemory : Type 0 where
  pub written : List ℕ
  pub failing : List ℕ
  pub calls : ℕ
  pub faults : ℕ
  pub starved : ℕ

-- it tells everything
abbrev pub shown : SinkInMemory → Written
shown m = record { faults = m.faults; bytes = Some m.written }

-- the next call is to fail
abbrev pub FailsNext : SinkInMemory → Type 0
FailsNext m = Contains m.failing (next_count m.calls)

-- this piece was written
abbrev pub after_write : SinkInMemory → List ℕ → SinkInMemory
after_write m piece = record m { written = m.written ++ piece; calls = next_count m.calls }

-- a piece was to be written, and the call failed
abbrev pub after_no_write : SinkInMemory → SinkInMemory
after_no_write m = record m { calls = next_count m.calls; faults = next_count m.faults }

-- a piece was to be written, and there was no memory for it
abbrev pub after_starved : SinkInMemory → SinkInMemory
after_starved m = record m { calls = next_count m.calls; faults = next_count m.faults; starved = next_count m.starved }
