use Rattle.std.proofs.Common.{List, ℕ, ◌++◌, ◌∙◌, ap, arith}
use Rattle.pt_report.proofs.MarkLines.{lines-next}
use Rattle.pt_report.proofs.explaining.mark_lines.Goals as goal

pub loop-place-preserved : goal.loop-place-preserved
loop-place-preserved c =
    lines-next c.args.choices.now c.args.marks.now c.loop-place.place c.index-choices-place.result c.index-marks-place.result c.loop-place.text.items
    c.in_ok-line.line c.extend_from_slice.new.self.items c.loop-place-test.true (omega (arith, c.loop-place-test.true, c.requires.as_many))
    c.index-choices-place.is c.index-marks-place.is
    (c.in_ok-extend_from_slice.ensures.items ∙ ap (λ (l : List ℕ). c.loop-place.text.items ++ l) c.as_slice.ensures)
    c.loop-place.invariant c.in_ok-line.ensures
