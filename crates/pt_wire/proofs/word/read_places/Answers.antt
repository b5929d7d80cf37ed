use Rattle.std.proofs.Common.{◌≢◌, ◌<◌, [], ◌∷◌, ◌++◌, length, sym, ap, ◌∙◌, arith, length-append}
use Rattle.std.proofs.lemmas.Bool.{eqb-false}
use Rattle.pt_choice.specs.Limits.{IsFew}
use Rattle.pt_wire.specs.Printed.{PrintedNumber}
use Rattle.pt_wire.proofs.JoinedTexts.{joined_end, marked_cut, fails_cut, fails_full_cut}
use Rattle.pt_wire.proofs.PrintedPlaces.{places_markable, places_printed, places_fail_within}
use Rattle.pt_wire.proofs.word.read_places.Goals as goal

pub returns-in-Err-clause-err : goal.returns-in-Err-clause-err
returns-in-Err-clause-err c =
    let i = c.loop-place.invariant in
    let places = c.loop-place.places in
    let some : length c.args.text.now ≢ 0 = eqb-false _ _ (sym c.is_empty.ensures ∙ c.if-is_empty.false) in
    places_fail_within c.args.text.now _ (omega arith)
    (fails_cut (PrintedNumber 255) 46 places_markable IsFew places i.0 c.loop-place.rest.now c.args.text.now c.cut.result.0.now c.cut.result.1 c.in-Err.place
    (λ value. omega (arith, length-append places (value ∷ []))) i.1 i.2 c.cut.ensures c.in-Err.ensures.err)

pub returns-in_default-clause-ok : goal.returns-in_default-clause-ok
returns-in_default-clause-ok c =
    let i = c.loop-place.invariant in
    let places = c.loop-place.places in
    let ended = (rw c.in_default.is at c.cut.ensures).1 in
    let whole = i.2 ∙ ap (λ t. i.0 ++ t) ended in
    rw c.in_ok-push-in-Ok.ensures.ok (
      omega (arith, length-append places (c.in-Ok.place ∷ [])),
      places_printed _ _ (rw whole (joined_end (PrintedNumber 255) 46 places c.in-Ok.place i.0 c.cut.result.0.now i.1 c.in-Ok.ensures.ok)),
    )

pub returns-then-len-eq-MOST_VALUES-clause-err : goal.returns-then-len-eq-MOST_VALUES-clause-err
returns-then-len-eq-MOST_VALUES-clause-err c =
    let i = c.loop-place.invariant in
    let places = c.loop-place.places in
    let some : length c.args.text.now ≢ 0 = eqb-false _ _ (sym c.is_empty.ensures ∙ c.if-is_empty.false) in
    let cut = (rw c.in-Some.is at c.cut.ensures).1 in
    let grown = ap length c.in_ok-push-in-Ok.ensures.ok in
    places_fail_within c.args.text.now _ (omega arith)
    (fails_full_cut (PrintedNumber 255) 46 places_markable IsFew places i.0 c.loop-place.rest.now c.args.text.now c.cut.result.0.now c.in-Some.others.now c.in-Ok.place
    i.1 i.2 cut c.in-Ok.ensures.ok (omega (arith, length-append places (c.in-Ok.place ∷ []))) (λ more others few. omega (arith, length-append (places ++ c.in-Ok.place ∷ []) (more ∷ others))))

pub loop-place-preserved : goal.loop-place-preserved
loop-place-preserved c =
    let i = c.loop-place.invariant in
    let places = c.loop-place.places in
    let cut = (rw c.in-Some.is at c.cut.ensures).1 in
    let grown = ap length c.in_ok-push-in-Ok.ensures.ok in
    let next = marked_cut (PrintedNumber 255) 46 places_markable places i.0 c.loop-place.rest.now c.args.text.now c.cut.result.0.now c.in-Some.others.now c.in-Ok.place i.1 i.2 cut c.in-Ok.ensures.ok in
    let room : length c.push.new.self < 64 = omega (arith, length-append places (c.in-Ok.place ∷ [])) in
    (next.0, rw c.in_ok-push-in-Ok.ensures.ok next.1, next.2, room)
