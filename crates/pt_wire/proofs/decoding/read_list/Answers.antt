use Rattle.std.proofs.Common.{◌≡◌, ◌≢◌, [], ◌∷◌, ◌++◌, length, sym, ap, ◌∙◌, append_assoc, arith, length-append}
use Rattle.std.proofs.lemmas.Bool.{eqb-true, eqb-false}
use Rattle.std.proofs.lemmas.List.{nil_from_length}
use Rattle.pt_wire.specs.Stored.{Stored, StoredChoice}
use Rattle.pt_wire.proofs.Answers.{reads_gathered}
use Rattle.pt_wire.proofs.Chains.{chained_more}
use Rattle.pt_wire.proofs.StoredLists.{fails_left, fails_next, whole_list}
use Rattle.pt_wire.proofs.decoding.read_list.Goals as goal

pub returns-in-Err-At : goal.returns-in-Err-At
returns-in-Err-At c =
    let i = c.loop.invariant in
    let split = c.requires.split in
    let inside = rw c.in-Err-At.field-0-is at c.in-Err-At.ensures.err in
    rw c.in-Err-At.field-0-is
    (fails_next c.args.count split.0 c.args.held.now c.args.entry.now i.1 c.loop.rest.now i.0 c.in-Err-At.place split.1 split.2 i.4 i.2 (omega (arith, i.5)) inside)

pub loop-preserved : goal.loop-preserved
loop-preserved c =
    let i = c.loop.invariant in
    let found = c.in-Ok.ensures.ok in (
      i.0 ++ c.in-Ok.choice ∷ [],
      i.1 ++ found.0,
      chained_more StoredChoice i.0 c.in-Ok.choice i.1 found.0 i.2 found.1,
      c.in_ok-gather-in-Ok.ensures i.0 i.3,
      i.4 ∙ ap (λ t. i.1 ++ t) found.2 ∙ sym (append_assoc i.1 found.0 c.in-Ok.after.now),
      omega (arith, length-append i.0 (c.in-Ok.choice ∷ []), i.5),
      omega (arith, ap length found.2, length-append found.0 c.in-Ok.after.now, i.6),
    )

pub returns : goal.returns
returns c =
    let i = c.loop.invariant in
    let split = c.requires.split in
    let some : length c.loop.rest.now ≢ 0 = eqb-false _ _ (sym c.is_empty.ensures ∙ c.if-is_empty.false) in
    fails_left c.args.count split.0 c.args.held.now c.args.entry.now i.1 c.loop.rest.now i.0 split.1 split.2 i.4 i.2 (omega (arith, i.5)) (omega arith)

pub returns-then-is_empty : goal.returns-then-is_empty
returns-then-is_empty c =
    let i = c.loop.invariant in
    let split = c.requires.split in
    let ended : c.loop.rest.now ≡ [] = nil_from_length c.loop.rest.now (eqb-true _ _ (sym c.is_empty.ensures ∙ c.if-is_empty.true)) in
    let whole = whole_list c.args.count split.0 c.args.held.now c.args.entry.now i.1 c.loop.rest.now i.0 split.1 split.2 i.4 i.2 (omega (arith, i.5)) ended in
    reads_gathered Stored c.args.entry.now i.0 c.into_list.result whole (c.into_list.ensures i.0 i.3)
