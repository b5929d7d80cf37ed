use Rattle.std.proofs.Common.{◌≡◌, Err, to_z, of_z, rules}
use Rattle.std.specs.Int.{w128}
use Rattle.pt_plan.proofs.DrewLemmas.{leads-new, leads-call, leads-entered, leads-left, leads-noted, drew-call, drew-rest}
use Rattle.tests_base.specs.Checks.{rising_plan, after_first, after_second}
use Rattle.tests_base.proofs.rising.draws_rising.Goals as goal

pub returns-in_err-first-clause-drew : goal.returns-in_err-first-clause-drew
returns-in_err-first-clause-drew c =
    let inside = leads-entered c.in_ok-enter.ensures.drew (leads-new (rising_plan c.args.name.now) c.args.case.now) in
    let gave : c.from_residual-in_err-first.result ≡ Err c.in_err-first.field-0.0 = search rules in
    rw gave (drew-call c.in_err-first.ensures.drew (after_first c.args.name.now) inside)

pub returns-in_err-second-clause-drew : goal.returns-in_err-second-clause-drew
returns-in_err-second-clause-drew c =
    let inside = leads-entered c.in_ok-enter.ensures.drew (leads-new (rising_plan c.args.name.now) c.args.case.now) in
    let first = leads-call c.in_ok-first.ensures.drew (after_first c.args.name.now) inside in
    let gave : c.from_residual-in_err-second.result ≡ Err c.in_err-second.field-0.0 = search rules in
    rw gave (drew-call c.in_err-second.ensures.drew (after_second c.args.name.now c.in_ok-first.first) first)

pub returns-clause-drew : goal.returns-clause-drew
returns-clause-drew c =
    let inside = leads-entered c.in_ok-enter.ensures.drew (leads-new (rising_plan c.args.name.now) c.args.case.now) in
    let first = leads-call c.in_ok-first.ensures.drew (after_first c.args.name.now) inside in
    let second = leads-call c.in_ok-second.ensures.drew (after_second c.args.name.now c.in_ok-first.first) first in
    let one : to_z w128 (of_z w128 c.in_ok-first.first) ≡ c.in_ok-first.first = search rules in
    let other : to_z w128 (of_z w128 c.in_ok-second.second) ≡ c.in_ok-second.second = search rules in
    let noted = leads-noted (rw (c.in_ok-copy.ensures, one, other) at c.in_ok-note.ensures.drew) (leads-left c.leave.ensures.left second) in
    drew-rest (rw (one, other) at c.weigh.ensures.drew c.note.new.case) noted
