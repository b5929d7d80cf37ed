use Rattle.std.proofs.Common.{take}
use Rattle.pt_report.specs.Listing.{AreEntryLines}
use Rattle.pt_report.proofs.listing.entry_lines.Given as goal

-- the lines of the entries so far
abbrev pub invariant-loop-entry : goal.invariant-loop-entry
invariant-loop-entry l = AreEntryLines (take l.entry-index l.entries) l.text.items
