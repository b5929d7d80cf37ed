use Rattle.std.proofs.Common.{◌≡◌, ◌+◌, ◌-◌, ◌<◌, ◌≤◌, [], ◌∷◌, refl, ◌∙◌, arith}
use Rattle.std.proofs.lemmas.List.{nil_from_length}
use Rattle.pt_wire.proofs.Leb128Groups.{group_within, groups_end, group_refused, group_too_great, groups_behind}
use Rattle.pt_wire.proofs.groups.+read_groups.Goals as goal
use Rattle.pt_wire.proofs.groups.+read_groups.Goals.{else-least-first-via-then-least-first+else-first-most, else-least-first-via-else-least-first}

pub returns-in_default-clause-err : goal.returns-in_default-clause-err
returns-in_default-clause-err t c =
    rw (nil_from_length c.args.bytes.now c.in_default.ensures.cases) (groups_end _ _ c.requires.small c.requires.ordered)

pub returns-then-first-most-clause-ok : goal.returns-then-first-most-clause-ok
returns-then-first-most-clause-ok t c =
    (c.from-first.result ∷ [], ((omega arith, refl), omega arith, omega arith), rw c.from-first.ensures c.in-Some.ensures.cases.0)

pub returns-else-least-first-clause-err : goal.returns-else-least-first-clause-err
returns-else-least-first-clause-err t c =
    let small : c.in-Some.first.now < 128 = omega arith in
    let out : c.args.least ≤ c.in-Some.first.now → c.in-Some.first.now ≤ c.args.most → ⊥ = λ above below.
    elim c.else-least-first.branch [
      | else-least-first-via-then-least-first+else-first-most w ↦ absurd (omega arith)
      | else-least-first-via-else-least-first w ↦ absurd (omega arith)
    ] in
    rw c.in-Some.ensures.cases.0 (group_refused _ _ _ _ c.requires.small c.requires.ordered small out)

pub returns-then-most-low-clause-err : goal.returns-then-most-low-clause-err
returns-then-most-low-clause-err t c =
    let low = c.in-Some.first.now - 128 in
    let split : c.in-Some.first.now ≡ 128 + low = omega arith in
    rw (c.in-Some.ensures.cases.0, split) (group_too_great _ _ low _ c.requires.small c.requires.ordered (omega arith))

pub returns-in-Ok-clause-ok : goal.returns-in-Ok-clause-ok
returns-in-Ok-clause-ok t c =
    let low = c.from-first.result - 128 in
    let inside = c.in-Ok.ensures.ok in
    let byte : c.in-Some.first.now ≡ 128 + low = omega arith in
    ((128 + low) ∷ inside.0, group_within _ _ low _ _ c.requires.small (omega arith) inside.1 (omega arith), c.in-Some.ensures.cases.0 ∙ rw (byte, inside.2) refl)

pub returns-in-Err-clause-err : goal.returns-in-Err-clause-err
returns-in-Err-clause-err t c =
    let low = c.from-first.result - 128 in
    let byte : c.in-Some.first.now ≡ 128 + low = omega arith in
    rw (c.in-Some.ensures.cases.0, byte) (groups_behind _ _ low _ _ c.requires.small (omega arith) (omega arith) c.in-Err.ensures.err)
