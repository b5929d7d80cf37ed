use Rattle.std.proofs.Common.{arith}
use Rattle.std.proofs.lemmas.List.{nil_from_length}
use Rattle.pt_wire.proofs.PrintedChoices.{choice_end, unknown_letter, bool_behind, integer_behind, bytes_behind, places_behind}
use Rattle.pt_wire.proofs.word.read_word.Goals as goal

pub returns-in_default-clause-err : goal.returns-in_default-clause-err
returns-in_default-clause-err c = rw (nil_from_length c.args.word.now c.in_default.ensures.cases) choice_end

pub returns-in-Err-clause-err : goal.returns-in-Err-clause-err
returns-in-Err-clause-err c = rw (c.in-Some.ensures.cases.0, c.in-98.is) (bool_behind _ _ c.in-Err.ensures.err)

pub returns-in-Err-read_integer-clause-err : goal.returns-in-Err-read_integer-clause-err
returns-in-Err-read_integer-clause-err c = rw (c.in-Some.ensures.cases.0, c.in-105.is) (integer_behind _ _ c.in-Err-read_integer.ensures.err)

pub returns-in-Err-At-clause-err : goal.returns-in-Err-At-clause-err
returns-in-Err-At-clause-err c =
    let fails = rw c.in-Err-At.field-0-is at c.in-Err-At.ensures.err in
    rw (c.in-Some.ensures.cases.0, c.in-120.is) (bytes_behind _ c.in-Err-At.place fails)

pub returns-in-Err-At-read_places-clause-err : goal.returns-in-Err-At-read_places-clause-err
returns-in-Err-At-read_places-clause-err c =
    let fails = rw c.in-Err-At-read_places.field-0-is at c.in-Err-At-read_places.ensures.err in
    rw (c.in-Some.ensures.cases.0, c.in-116.is) (places_behind _ c.in-Err-At-read_places.place fails)

pub returns-in_default-sort-clause-err : goal.returns-in_default-sort-clause-err
returns-in_default-sort-clause-err c =
    rw c.in-Some.ensures.cases.0 (unknown_letter _ _ (λ e. omega arith) (λ e. omega arith) (λ e. omega arith) (λ e. omega arith))
