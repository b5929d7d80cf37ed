use Rattle.std.proofs.lemmas.Result.{on_ok_weaker}
use Rattle.pt_edits.proofs.AskedLemmas.{renewed}
use Rattle.pt_edits.proofs.asking.add_renewal.Goals as goal

pub returns : goal.returns
returns c =
    on_ok_weaker c.push.result (renewed c.args.bytes c.args.list.now c.args.edits.now c.add_save.new.edits c.push.new.self c.in_ok-add_save.ensures) c.push.ensures.ok
