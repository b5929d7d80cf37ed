use Rattle.std.proofs.lemmas.Result.{on_ok_weaker}
use Rattle.pt_edits.proofs.AskedLemmas.{kept-renewed}
use Rattle.pt_edits.proofs.asking.add_kept_or_not.Goals as goal

pub returns : goal.returns
returns c =
    on_ok_weaker c.add_renewal.result
    (kept-renewed c.args.bytes c.args.unpacked c.args.fails c.args.edits.now c.add_renewal.new.edits c.if-not-fails.false c.if-not-unpacked.false)
    c.add_renewal.ensures
