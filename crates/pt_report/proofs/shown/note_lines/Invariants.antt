use Rattle.std.proofs.Common.{◌≡◌, take}
use Rattle.std.specs.List.{flat_map}
use Rattle.pt_report.specs.Report.{note_line}
use Rattle.pt_report.proofs.shown.note_lines.Given as goal

-- the notes so far have their lines
abbrev pub invariant-loop-note : goal.invariant-loop-note
invariant-loop-note l = l.text.items ≡ flat_map note_line (take l.note-index l.note-items)
