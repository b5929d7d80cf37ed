use Rattle.std.proofs.Common.{◌∷◌, refl, ◌∙◌, arith, rules, SFits}
use Rattle.std.specs.Int.{w128}
use Rattle.std.proofs.lemmas.Int.{to_z-of_z}
use Rattle.std.proofs.lemmas.List.{nil_from_length}
use Rattle.pt_wire.proofs.StoredChoices.{choice_end, unknown_sort, integer_behind, bytes_behind, places_behind}
use Rattle.pt_wire.proofs.decoding.read_choice.Goals as goal

pub returns-in_default-clause-err : goal.returns-in_default-clause-err
returns-in_default-clause-err c = rw (nil_from_length c.args.bytes.now c.in_default.ensures.cases) choice_end

pub returns-in-Ok-clause-ok : goal.returns-in-Ok-clause-ok
returns-in-Ok-clause-ok c =
    let inside = c.in-Ok.ensures.ok in
    let fits : SFits w128 c.integer.result = search rules in
    rw (to_z-of_z w128 c.integer.result fits) (2 ∷ inside.0, (inside.0, refl, rw c.integer.ensures.value inside.1.0, c.integer.ensures.small), c.in-Some.ensures.cases.0 ∙ rw (c.in-2.is, inside.2) refl)

pub returns-in-Err-clause-err : goal.returns-in-Err-clause-err
returns-in-Err-clause-err c = rw (c.in-Some.ensures.cases.0, c.in-2.is) (integer_behind _ _ c.in-Err.ensures.err)

pub returns-in_ok-of-in-Ok-read_counted-clause-ok : goal.returns-in_ok-of-in-Ok-read_counted-clause-ok
returns-in_ok-of-in-Ok-read_counted-clause-ok c =
    let inside = c.in-Ok-read_counted.ensures.ok in
    rw c.in_ok-of-in-Ok-read_counted.ensures (3 ∷ inside.0, (inside.0, refl, inside.1), c.in-Some.ensures.cases.0 ∙ rw (c.in-3.is, inside.2) refl)

pub returns-in-Err-read_counted-clause-err : goal.returns-in-Err-read_counted-clause-err
returns-in-Err-read_counted-clause-err c = rw (c.in-Some.ensures.cases.0, c.in-3.is) (bytes_behind _ _ c.in-Err-read_counted.ensures.err)

pub returns-in_ok-of-in-Ok-read_counted-2-clause-ok : goal.returns-in_ok-of-in-Ok-read_counted-2-clause-ok
returns-in_ok-of-in-Ok-read_counted-2-clause-ok c =
    let inside = c.in-Ok-read_counted-2.ensures.ok in
    rw c.in_ok-of-in-Ok-read_counted-2.ensures (4 ∷ inside.0, (inside.0, refl, inside.1), c.in-Some.ensures.cases.0 ∙ rw (c.in-4.is, inside.2) refl)

pub returns-in-Err-read_counted-2-clause-err : goal.returns-in-Err-read_counted-2-clause-err
returns-in-Err-read_counted-2-clause-err c = rw (c.in-Some.ensures.cases.0, c.in-4.is) (places_behind _ _ c.in-Err-read_counted-2.ensures.err)

pub returns-in_default-sort-clause-err : goal.returns-in_default-sort-clause-err
returns-in_default-sort-clause-err c = rw c.in-Some.ensures.cases.0 (unknown_sort _ _ (omega arith))
