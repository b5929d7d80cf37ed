use Rattle.std.proofs.Common.{◌++◌, ◌∙◌, ap, append_assoc, arith}
use Rattle.std.proofs.lemmas.List.{take_more}
use Rattle.pt_wire.specs.Stored.{StoredChoice}
use Rattle.pt_wire.proofs.Chains.{chained_more}
use Rattle.pt_wire.proofs.encoding.encode.Goals as goal

pub loop-choice-preserved : goal.loop-choice-preserved
loop-choice-preserved c =
    let items = c.as_slice-choice-items.result.now in
    let written = c.in_ok-push_choice.ensures in
    let i = c.loop-choice.invariant in (
      i.0,
      i.1 ++ written.0,
      i.2,
      rw (take_more items c.loop-choice.choice-index c.choice-item.result (omega arith), ← c.choice-item.is) (chained_more StoredChoice _ _ _ _ i.3 written.1),
      written.2 ∙ ap (λ t. t ++ written.0) i.4 ∙ append_assoc i.0 i.1 written.0,
    )
