use Rattle.std.proofs.Common.{◌<◌, ◌∙◌, arith}
use Rattle.std.specs.List.{AllByRecursion}
use Rattle.std.proofs.lemmas.List.{nil_from_length}
use Rattle.pt_wire.proofs.Bytes.{are_bytes}
use Rattle.pt_wire.proofs.StoredChoices.{counted_end, count_too_great, counted_short, counted_split}
use Rattle.pt_wire.proofs.decoding.read_counted.Goals as goal

pub returns-in_default-clause-err : goal.returns-in_default-clause-err
returns-in_default-clause-err c = rw (nil_from_length c.args.bytes.now c.in_default.ensures.cases) counted_end

pub returns-then-count-gt-MOST_BYTES-clause-err : goal.returns-then-count-gt-MOST_BYTES-clause-err
returns-then-count-gt-MOST_BYTES-clause-err c = rw c.in-Some.ensures.cases.0 (count_too_great _ _ (omega arith))

pub returns-then-rest-count-clause-err : goal.returns-then-rest-count-clause-err
returns-then-rest-count-clause-err c =
    let parts = c.in-Some.ensures.cases.0 in
    let each : AllByRecursion (λ byte. byte < 256) c.in-Some.rest.now = (rw parts at (are_bytes c.args.bytes.now (λ k. omega (arith, c.type_inv.bytes k)))).1 in
    rw parts (counted_short _ _ (omega arith) (omega arith) each)

pub returns-clause-ok : goal.returns-clause-ok
returns-clause-ok c =
    let parts = c.in-Some.ensures.cases.0 in
    let each : AllByRecursion (λ byte. byte < 256) c.in-Some.rest.now = (rw parts at (are_bytes c.args.bytes.now (λ k. omega (arith, c.type_inv.bytes k)))).1 in
    let split = counted_split c.in-Some.count.now c.in-Some.rest.now c.split_at.result.0.now c.split_at.result.1.now (omega arith) (omega arith) each (rw (← c.from-count.ensures) c.split_at.ensures.front) (rw (← c.from-count.ensures) c.split_at.ensures.back) in
    (split.0, split.1, parts ∙ split.2)
