use Rattle.std.proofs.Common.{◌≡◌, ◌+◌, ◌∷◌, ◌++◌, length, get_or, drop, sym, ap, subst, ◌∙◌, arith, length-take}
use Rattle.std.proofs.lemmas.List.{drop_more, take_all, take-append-drop}
use Rattle.pt_wire.specs.Number.{digits_of}
use Rattle.pt_wire.specs.Printed.{PrintedNumber}
use Rattle.pt_wire.specs.Spelling.{FailsAt}
use Rattle.pt_wire.proofs.Decimals.{number_fails, number_ends}
use Rattle.pt_wire.proofs.number.read_number.Goals as goal

pub returns-in-None-clause-err : goal.returns-in-None-clause-err
returns-in-None-clause-err c =
    let digits = c.args.digits.now in
    let k = c.loop-place.place in
    let i = c.loop-place.invariant in
    let parts : digits ≡ digits_of c.loop-place.number ++ get_or digits k 0 ∷ drop (k + 1) digits =
    sym (take-append-drop k digits) ∙ ap (λ t. t ++ drop k digits) i.0 ∙ ap (λ t. digits_of c.loop-place.number ++ t) (drop_more digits k 0 (omega arith)) in
    let place : length (digits_of c.loop-place.number) ≡ k = sym (ap length i.0) ∙ omega (arith, length-take k digits) in
    subst (FailsAt (PrintedNumber c.args.most) digits) place
    (subst (λ t. FailsAt (PrintedNumber c.args.most) t (length (digits_of c.loop-place.number))) (sym parts)
    (number_fails c.args.most c.loop-place.number (get_or digits k 0) (drop (k + 1) digits) i.1 c.in-None.ensures))

pub returns-clause-err : goal.returns-clause-err
returns-clause-err c =
    let digits = c.args.digits.now in
    let i = c.loop-place.invariant in
    rw c.ok_or.ensures.value (number_ends c.args.most c.loop-place.number digits c.requires (sym (take_all c.loop-place.place digits (omega arith)) ∙ i.0))
