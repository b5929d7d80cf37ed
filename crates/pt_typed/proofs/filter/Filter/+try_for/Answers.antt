use Rattle.std.proofs.Common.{◌≡◌, suc, ◌-◌, true, false, Err, arith, rules}
use Rattle.pt_plan.specs.Plan.{Gives, Leaves}
use Rattle.std.specs.Prelude.{if◌then◌else◌}
use Rattle.pt_plan.proofs.DrewLemmas.{drew-call, drew-ended, drew-rest}
use Rattle.pt_typed.specs.Fail.{fail_of}
use Rattle.pt_typed.specs.Plans.{tries_plan}
use Rattle.pt_typed.proofs.FilterLemmas.{try-refused, try-value, try-passed, try-failed}
use Rattle.pt_typed.proofs.filter.Filter.+try_for.Goals as goal

pub returns-in_err-enter-clause-drew : goal.returns-in_err-enter-clause-drew
returns-in_err-enter-clause-drew g n c =
    let one : c.args.tries ≡ suc (c.args.tries - 1) = grind arith in
    let gave : c.from_residual.result ≡ Err (fail_of c.in_err-enter.field-0.0) = search rules in
    rw gave (try-refused (g.S.Strategy.plan c.args.self.now.inner) (g.F.Predicate.truth c.args.self.now.f) c.args.tries (c.args.tries - 1) one
    c.in_err-enter.ensures.drew)

pub returns-in_err-value-clause-drew : goal.returns-in_err-value-clause-drew
returns-in_err-value-clause-drew g n c =
    let inner = g.S.Strategy.plan c.args.self.now.inner in
    let wanted = g.F.Predicate.truth c.args.self.now.f in
    let one : c.args.tries ≡ suc (c.args.tries - 1) = grind arith in
    let gave : c.from_residual-in_err-value.result ≡ Err c.in_err-value.field-0.0 = search rules in
    rw gave (drew-call c.in_err-value.ensures.drew (λ value. Leaves (if wanted value then Gives value else tries_plan inner wanted (c.args.tries - 1)))
    (try-value inner wanted c.args.tries (c.args.tries - 1) one c.in_ok-enter.ensures.drew))

pub returns-then-wanted-clause-drew : goal.returns-then-wanted-clause-drew
returns-then-wanted-clause-drew g n c =
    let inner = g.S.Strategy.plan c.args.self.now.inner in
    let wanted = g.F.Predicate.truth c.args.self.now.f in
    let one : c.args.tries ≡ suc (c.args.tries - 1) = grind arith in
    let is : wanted (g.S.Value.ToVal.val c.in_ok-value.value) ≡ true = search rules in
    drew-ended (try-passed inner wanted c.args.tries (c.args.tries - 1) one c.in_ok-enter.ensures.drew (g.S.Value.ToVal.val c.in_ok-value.value)
    c.in_ok-value.ensures.drew c.leave.ensures.left is)

pub returns-clause-drew : goal.returns-clause-drew
returns-clause-drew g n c =
    let inner = g.S.Strategy.plan c.args.self.now.inner in
    let wanted = g.F.Predicate.truth c.args.self.now.f in
    let one : c.args.tries ≡ suc (c.args.tries - 1) = grind arith in
    let is : wanted (g.S.Value.ToVal.val c.in_ok-value.value) ≡ false = search rules in
    drew-rest c.try_for.ensures.drew (try-failed inner wanted c.args.tries (c.args.tries - 1) one c.in_ok-enter.ensures.drew
    (g.S.Value.ToVal.val c.in_ok-value.value) c.in_ok-value.ensures.drew c.leave.ensures.left is)
