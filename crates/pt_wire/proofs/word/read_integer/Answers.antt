use Rattle.std.proofs.Common.{◌≡◌, arith}
use Rattle.std.proofs.lemmas.List.{nil_from_length}
use Rattle.pt_wire.proofs.Integers.{integer_end, plain_fails, minus_alone, minus_zero, minus_fails, minus_number}
use Rattle.pt_wire.proofs.word.read_integer.Goals as goal

pub returns-in_default-clause-err : goal.returns-in_default-clause-err
returns-in_default-clause-err c = rw (nil_from_length c.args.text.now c.in_default.ensures.cases) integer_end

pub returns-in-Err-clause-err : goal.returns-in-Err-clause-err
returns-in-Err-clause-err c =
    let parts = c.in-Some.ensures.cases.0 in
    rw parts (plain_fails _ _ _ c.if-first-ne45.true (rw parts at c.in-Err.ensures.err))

pub returns-in_default-split_first-clause-err : goal.returns-in_default-split_first-clause-err
returns-in_default-split_first-clause-err c =
    let minus : c.in-Some.first.now ≡ 45 = omega arith in
    rw (c.in-Some.ensures.cases.0, minus, nil_from_length c.in-Some.digits.now c.in_default-split_first.ensures.cases) minus_alone

pub returns-then-leading-eq48-clause-err : goal.returns-then-leading-eq48-clause-err
returns-then-leading-eq48-clause-err c =
    let minus : c.in-Some.first.now ≡ 45 = omega arith in
    rw (c.in-Some.ensures.cases.0, minus, c.in-Some-split_first.ensures.cases.0, c.if-leading-eq48.true) (minus_zero _)

pub returns-in-Ok-read_number-clause-ok : goal.returns-in-Ok-read_number-clause-ok
returns-in-Ok-read_number-clause-ok c =
    let minus : c.in-Some.first.now ≡ 45 = omega arith in
    let digits = c.in-Some-split_first.ensures.cases.0 in
    rw (c.in-Some.ensures.cases.0, minus, digits) (minus_number _ _ c.in-Ok-read_number.number c.if-leading-eq48.false (rw digits at c.in-Ok-read_number.ensures.ok))

pub returns-in-Err-read_number-clause-err : goal.returns-in-Err-read_number-clause-err
returns-in-Err-read_number-clause-err c =
    let minus : c.in-Some.first.now ≡ 45 = omega arith in
    let digits = c.in-Some-split_first.ensures.cases.0 in
    rw (c.in-Some.ensures.cases.0, minus, digits) (minus_fails _ _ c.in-Err-read_number.place c.if-leading-eq48.false (rw digits at c.in-Err-read_number.ensures.err))
