use Rattle.std.proofs.Common.{◌≡◌, Err, pos, to_z, of_z, rules}
use Rattle.std.specs.Int.{w128}
use Rattle.pt_plan.proofs.DrewLemmas.{leads-new, leads-call, drew-call, drew-rest}
use Rattle.tests_engine.specs.Checks.{two_plan, second_plan, judged}
use Rattle.tests_engine.proofs.two.draws_two.Goals as goal

pub returns-in_err-second-clause-drew : goal.returns-in_err-second-clause-drew
returns-in_err-second-clause-drew c =
    let first = leads-call c.in_ok-first.ensures.drew (second_plan (pos 100) c.args.rule) (leads-new (two_plan (pos 100) c.args.rule) c.args.case.now) in
    let gave : c.from_residual-in_err-second.result ≡ Err c.in_err-second.field-0.0 = search rules in
    rw gave (drew-call c.in_err-second.ensures.drew (judged c.args.rule c.in_ok-first.first) first)

pub returns-clause-drew : goal.returns-clause-drew
returns-clause-drew c =
    let first = leads-call c.in_ok-first.ensures.drew (second_plan (pos 100) c.args.rule) (leads-new (two_plan (pos 100) c.args.rule) c.args.case.now) in
    let second = leads-call c.in_ok-second.ensures.drew (judged c.args.rule c.in_ok-first.first) first in
    let one : to_z w128 (of_z w128 c.in_ok-first.first) ≡ c.in_ok-first.first = search rules in
    let other : to_z w128 (of_z w128 c.in_ok-second.second) ≡ c.in_ok-second.second = search rules in
    drew-rest (rw (c.is_bad.ensures, one, other) at c.judge.ensures.drew c.draws_number-2.new.case) second
