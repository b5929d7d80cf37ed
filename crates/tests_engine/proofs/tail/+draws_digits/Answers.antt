use Rattle.std.proofs.Common.{◌≡◌, ◌≤◌, ◌-◌, ℕ, ℤ, suc, pos, Err, ap, to_z, of_z, rules, arith}
use Rattle.std.specs.Int.{w128}
use Rattle.pt_case.specs.State.{State}
use Rattle.pt_plan.specs.Plan.{and_then}
use Rattle.pt_plan.proofs.DrewLemmas.{Leads, leads-is, leads-new, leads-call, drew-call, drew-rest}
use Rattle.tests_engine.specs.Checks.{digits_plan, number_plan}
use Rattle.tests_engine.proofs.tail.+draws_digits.Goals as goal

-- one more digit is drawn
one_more : (left : ℕ) (last : ℤ) (now : State) → 1 ≤ left → Leads (digits_plan left last) now (and_then (number_plan (pos 9)) (digits_plan (left - 1))) now
one_more left last now some =
    let one : left ≡ suc (left - 1) = omega (arith, some) in
    leads-is (leads-new (digits_plan left last) now) (ap (λ n. digits_plan n last) one)

pub returns-then-left-eq0-clause-drew : goal.returns-then-left-eq0-clause-drew
returns-then-left-eq0-clause-drew t c =
    let none : c.args.left ≡ 0 = omega arith in
    let last : to_z w128 (of_z w128 c.args.last) ≡ c.args.last = search rules in
    drew-rest (rw (c.is_seven.ensures, last) at c.judge.ensures.drew c.args.case.now) (leads-is (leads-new (digits_plan c.args.left c.args.last) c.args.case.now) (ap (λ n. digits_plan n c.args.last) none))

pub returns-in_err-digit-clause-drew : goal.returns-in_err-digit-clause-drew
returns-in_err-digit-clause-drew t c =
    let gave : c.from_residual.result ≡ Err c.in_err-digit.field-0.0 = search rules in
    rw gave (drew-call c.in_err-digit.ensures.drew (digits_plan (c.args.left - 1)) (one_more c.args.left c.args.last c.args.case.now (omega arith)))

pub returns-clause-drew : goal.returns-clause-drew
returns-clause-drew t c =
    let digit : to_z w128 (of_z w128 c.in_ok-digit.digit) ≡ c.in_ok-digit.digit = search rules in
    drew-rest (rw digit at c.draws_digits.ensures.drew)
    (leads-call c.in_ok-digit.ensures.drew (digits_plan (c.args.left - 1)) (one_more c.args.left c.args.last c.args.case.now (omega arith)))
