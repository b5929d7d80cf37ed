use Rattle.std.proofs.Common.{◌++◌, List, take, sym, ◌∙◌, ap}
use Rattle.pt_choice.specs.declared.choice.Choice.{Choice}
use Rattle.pt_edits.specs.Readings.{list_in, lists_of}
use Rattle.pt_edits.proofs.AskedLemmas.{lists-push}
use Rattle.pt_edits.proofs.Splits.{take-next}
use Rattle.pt_edits.proofs.asking.lists_of.Goals as goal

pub loop-reading-preserved : goal.loop-reading-preserved
loop-reading-preserved c =
    let items = c.as_slice-reading-items.result.now in
    let i = c.loop-reading.reading-index in
    let reading = c.reading-item.result in
    c.in_ok-add_list.ensures ∙ ap (λ (lists : List (List Choice)). lists ++ list_in reading.unpacked) c.loop-reading.invariant ∙ sym (lists-push (take i items) reading)
    ∙ ap lists_of (sym (take-next items i reading c.loop-reading-test.true c.reading-item.is))
