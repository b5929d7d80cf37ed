use Rattle.std.proofs.Common.{◌≡◌, ◌≢◌, ◌+◌, ◌-◌, [], ◌∷◌, ◌++◌, length, sym, ap, ◌∙◌, append_assoc, arith}
use Rattle.std.proofs.lemmas.Bool.{eqb-true, eqb-false}
use Rattle.std.proofs.lemmas.List.{append-nil, nil_from_length}
use Rattle.pt_wire.specs.Answer.{Reads}
use Rattle.pt_wire.specs.Spelling.{FailsAt}
use Rattle.pt_wire.specs.Stored.{StoredChoice, StoredOne}
use Rattle.pt_wire.proofs.Answers.{answer_for, answer_writable, reads_gathered}
use Rattle.pt_wire.proofs.Chains.{chained_more, fails_within, fails_anyway, one_chain}
use Rattle.pt_wire.proofs.Limited.{old_limits}
use Rattle.pt_wire.proofs.StoredChoices.{choices_free}
use Rattle.pt_wire.proofs.decoding.decode_one.Goals as goal
use Rattle.pt_wire.proofs.decoding.decode_one.Goals.{After-into_list, In-Err-At}

pub loop-rest-preserved : goal.loop-rest-preserved
loop-rest-preserved c =
    let i = c.loop-rest.invariant in
    let found = c.in-Ok.ensures.ok in (
      i.0 ++ c.in-Ok.choice ∷ [],
      i.1 ++ found.0,
      chained_more StoredChoice i.0 c.in-Ok.choice i.1 found.0 i.2 found.1,
      c.in_ok-gather-in-Ok.ensures i.0 i.3,
      i.4 ∙ ap (λ t. i.1 ++ t) found.2 ∙ sym (append_assoc i.1 found.0 c.in-Ok.after.now),
    )

fails : (c : In-Err-At) → FailsAt StoredOne c.args.bytes.now (length c.args.bytes.now - length c.loop-rest.rest.now + c.in-Err-At.place)
fails c =
    let i = c.loop-rest.invariant in
    let some : length c.loop-rest.rest.now ≢ 0 = eqb-false _ _ (sym c.is_empty.ensures ∙ c.loop-rest-test.true) in
    let inside = rw c.in-Err-At.field-0-is at c.in-Err-At.ensures.err in
    fails_anyway StoredOne _ _ (fails_within (λ _. Unit {0}) StoredChoice choices_free i.0 i.1 c.loop-rest.rest.now c.args.bytes.now c.in-Err-At.place (λ _. tt) i.2 i.4 (omega arith) inside)

pub returns-in-Err-At-clause-reads : goal.returns-in-Err-At-clause-reads
returns-in-Err-At-clause-reads c = rw c.in-Err-At.field-0-is (fails (goal.at.returns-in-Err-At-clause-reads c).In-Err-At)

pub returns-in-Err-At-clause-only : goal.returns-in-Err-At-clause-only
returns-in-Err-At-clause-only c = (fails (goal.at.returns-in-Err-At-clause-only c).In-Err-At).none

reads : (c : After-into_list) → Reads StoredOne c.args.bytes.now c.into_list.result
reads c =
    let i = c.loop-rest.invariant in
    let ended : c.loop-rest.rest.now ≡ [] = nil_from_length c.loop-rest.rest.now (eqb-true _ _ (sym c.is_empty.ensures ∙ c.loop-rest-test.false)) in
    let whole : c.args.bytes.now ≡ i.1 = i.4 ∙ ap (λ t. i.1 ++ t) ended ∙ append-nil i.1 in
    reads_gathered StoredOne c.args.bytes.now i.0 c.into_list.result (rw whole i.2) (c.into_list.ensures i.0 i.3)

pub returns-clause-reads : goal.returns-clause-reads
returns-clause-reads c = reads c

pub returns-clause-only : goal.returns-clause-only
returns-clause-only c = answer_for StoredOne c.args.bytes.now c.into_list.result (λ a b. one_chain StoredChoice choices_free a b c.args.bytes.now) (reads c)

pub returns-clause-writable : goal.returns-clause-writable
returns-clause-writable c = answer_writable StoredOne c.args.bytes.now c.into_list.result (λ list. old_limits list c.args.bytes.now) (reads c)
