use Rattle.std.proofs.Common.{◌≡◌, map, All}
use Rattle.pt_edits.specs.Readings.{IsSpelled, IsWritableReading}
use Rattle.pt_edits.proofs.stored.readings_of.Given as goal

-- the readings of the entries so far
abbrev pub invariant-loop-entry : goal.invariant-loop-entry
invariant-loop-entry l = record {
  values : map (λ reading. reading.bytes) l.readings ≡ map (λ entry. entry.bytes) l.yielded;
  spelled : All IsSpelled l.readings;
  writable : All IsWritableReading l.readings;
}
