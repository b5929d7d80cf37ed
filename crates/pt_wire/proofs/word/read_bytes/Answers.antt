use Rattle.std.proofs.Common.{◌≢◌, [], ◌∷◌, ◌++◌, length, sym, ap, ◌∙◌, append_assoc, arith, length-append}
use Rattle.std.proofs.lemmas.Bool.{eqb-false}
use Rattle.pt_choice.specs.Limits.{IsFew}
use Rattle.pt_wire.specs.Printed.{PrintedByte}
use Rattle.pt_wire.proofs.Chains.{chained_more, fails_within, fails_full_within}
use Rattle.pt_wire.proofs.PrintedBytes.{bytes_free}
use Rattle.pt_wire.proofs.word.read_bytes.Goals as goal

pub returns-then-len-eq-MOST_VALUES-clause-err : goal.returns-then-len-eq-MOST_VALUES-clause-err
returns-then-len-eq-MOST_VALUES-clause-err c =
    let i = c.loop-rest.invariant in
    let bytes = c.loop-rest.bytes in
    let some : length c.loop-rest.rest.now ≢ 0 = eqb-false _ _ (sym c.is_empty.ensures ∙ c.loop-rest-test.true) in
    fails_full_within IsFew PrintedByte bytes_free bytes i.0 c.loop-rest.rest.now c.args.text.now i.3 (λ more others few. omega (arith, length-append bytes (more ∷ others))) i.1 i.2 (omega arith)

pub loop-rest-preserved : goal.loop-rest-preserved
loop-rest-preserved c =
    let i = c.loop-rest.invariant in
    let bytes = c.loop-rest.bytes in
    let found = c.in-Ok.ensures.ok in
    rw c.in_ok-push-in-Ok.ensures.ok (
      i.0 ++ found.0,
      chained_more PrintedByte bytes c.in-Ok.byte i.0 found.0 i.1 found.1,
      i.2 ∙ ap (λ t. i.0 ++ t) found.2 ∙ sym (append_assoc i.0 found.0 c.in-Ok.after.now),
      omega (arith, length-append bytes (c.in-Ok.byte ∷ [])),
    )

pub returns-in-Err-clause-err : goal.returns-in-Err-clause-err
returns-in-Err-clause-err c =
    let i = c.loop-rest.invariant in
    let bytes = c.loop-rest.bytes in
    let some : length c.loop-rest.rest.now ≢ 0 = eqb-false _ _ (sym c.is_empty.ensures ∙ c.loop-rest-test.true) in
    fails_within IsFew PrintedByte bytes_free bytes i.0 c.loop-rest.rest.now c.args.text.now c.in-Err.place (λ value. omega (arith, length-append bytes (value ∷ []))) i.1 i.2 (omega arith) c.in-Err.ensures.err
