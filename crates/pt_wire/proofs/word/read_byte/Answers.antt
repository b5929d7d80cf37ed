use Rattle.std.proofs.lemmas.List.{nil_from_length}
use Rattle.pt_wire.proofs.PrintedBytes.{byte_end, no_first_digit, second_digit_missing, no_second_digit}
use Rattle.pt_wire.proofs.word.read_byte.Goals as goal

pub returns-in_default-clause-err : goal.returns-in_default-clause-err
returns-in_default-clause-err c = rw (nil_from_length c.args.text.now c.in_default.ensures.cases) byte_end

pub returns-in_default-digit-clause-err : goal.returns-in_default-digit-clause-err
returns-in_default-digit-clause-err c = rw c.in-Some.ensures.cases.0 (no_first_digit _ _ c.in_default-digit.ensures)

pub returns-in_default-split_first-clause-err : goal.returns-in_default-split_first-clause-err
returns-in_default-split_first-clause-err c =
    let high = c.in-Some-digit.ensures in
    rw (c.in-Some.ensures.cases.0, nil_from_length c.in-Some.others.now c.in_default-split_first.ensures.cases) (second_digit_missing c.in-Some-digit.high _ high.0 high.1)

pub returns-in_default-digit-2-clause-err : goal.returns-in_default-digit-2-clause-err
returns-in_default-digit-2-clause-err c =
    let high = c.in-Some-digit.ensures in
    rw (c.in-Some.ensures.cases.0, c.in-Some-split_first.ensures.cases.0) (no_second_digit c.in-Some-digit.high _ _ _ high.0 high.1 c.in_default-digit-2.ensures)
