use Rattle.std.proofs.Common.{take}
use Rattle.pt_report.specs.Explaining.{AreMarkLines}
use Rattle.pt_report.proofs.explaining.mark_lines.Given as goal

-- the lines of the places so far
abbrev pub invariant-loop-place : goal.invariant-loop-place
invariant-loop-place l = AreMarkLines 0 (take l.place l.choices) (take l.place l.marks) l.text.items
