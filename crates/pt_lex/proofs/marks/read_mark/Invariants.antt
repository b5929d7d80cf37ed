use Rattle.std.proofs.Common.{◌≡◌, drop}
use Rattle.pt_lex.specs.reading.Mark.{all_marks, mark_among}
use Rattle.pt_lex.proofs.marks.read_mark.Given as goal

abbrev pub invariant-loop-mark : goal.invariant-loop-mark
invariant-loop-mark l = (l.mark-items ≡ all_marks) × (mark_among (drop l.mark-index l.mark-items) l.text ≡ mark_among all_marks l.text)
