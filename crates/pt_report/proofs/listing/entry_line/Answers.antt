use Rattle.pt_report.proofs.ListingLemmas.{spelled}
use Rattle.pt_report.proofs.listing.entry_line.Goals as goal

pub returns-in-Some : goal.returns-in-Some
returns-in-Some c =
    spelled c.args.entry.now c.as_slice.result.now c.in_ok-unpacked.field-0 c.in-Some.unpacked c.spelled_line.result c.as_slice.ensures c.in-Some.is
    c.in_ok-unpacked.ensures.found c.spelled_line.ensures
