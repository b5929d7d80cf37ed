use Rattle.std.proofs.Common.{List, ℕ, ◌++◌, ◌∙◌, ap}
use Rattle.pt_report.proofs.ListingLemmas.{lines-next}
use Rattle.pt_report.proofs.listing.entry_lines.Goals as goal

pub loop-entry-preserved : goal.loop-entry-preserved
loop-entry-preserved c =
    lines-next c.args.entries.now c.loop-entry.entry-index c.entry-item.result c.loop-entry.text.items c.in_ok-line.line c.extend_from_slice.new.self.items
    c.loop-entry-test.true c.entry-item.is
    (c.in_ok-extend_from_slice.ensures.items ∙ ap (λ (l : List ℕ). c.loop-entry.text.items ++ l) c.as_slice.ensures)
    c.loop-entry.invariant c.in_ok-line.ensures
