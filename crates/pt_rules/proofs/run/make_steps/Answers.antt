use Rattle.std.proofs.Common.{◌≡◌, ◌-◌, ◌+◌, map, true, false, Err, arith, rules, ap}
use Rattle.pt_plan.proofs.DrewLemmas.{leads-new, leads-is, drew-call, drew-ended}
use Rattle.pt_rules.specs.Machine.{or_passed, steps_plan}
use Rattle.pt_rules.proofs.StepLemmas.{next-turn, turn-on, turn-off}
use Rattle.pt_rules.proofs.run.make_steps.Goals as goal

pub turns-init : goal.turns-init
turns-init g c = let all : c.args.steps - 0 ≡ c.args.steps = omega arith in rw all (leads-new _ _)

pub returns-in_err-went-clause-drew : goal.returns-in_err-went-clause-drew
returns-in_err-went-clause-drew g c =
    let rules_are = map g.R.Rule.meaning c.args.rules.now in
    let gave : c.from_residual.result ≡ Err c.in_err-went.field-0.0 = search rules in
    rw gave (drew-call c.in_err-went.ensures.drew (or_passed (λ next. steps_plan rules_are (c.args.steps - (c.turns._turn + 1)) next))
    (next-turn rules_are c.turns.state c.args.steps c.turns._turn (omega arith) c.turns.invariant))

pub returns-then-not-went-clause-drew : goal.returns-then-not-went-clause-drew
returns-then-not-went-clause-drew g c =
    let rules_are = map g.R.Rule.meaning c.args.rules.now in
    let no : c.in_ok-went.went ≡ false = search rules in
    turn-off rules_are (c.args.steps - (c.turns._turn + 1)) c.turns.state
    (next-turn rules_are c.turns.state c.args.steps c.turns._turn (omega arith) c.turns.invariant) (rw no at c.in_ok-went.ensures.drew)

pub turns-preserved : goal.turns-preserved
turns-preserved g c =
    let rules_are = map g.R.Rule.meaning c.args.rules.now in
    let yes : c.in_ok-went.went ≡ true = search rules in
    turn-on rules_are (c.args.steps - (c.turns._turn + 1)) c.turns.state c.make_step.new.state
    (next-turn rules_are c.turns.state c.args.steps c.turns._turn (omega arith) c.turns.invariant) (rw yes at c.in_ok-went.ensures.drew)

pub returns-clause-drew : goal.returns-clause-drew
returns-clause-drew g c =
    let none : c.args.steps - c.turns._turn ≡ 0 = omega arith in
    drew-ended (leads-is c.turns.invariant (ap (λ count. steps_plan (map g.R.Rule.meaning c.args.rules.now) count c.turns.state) none))
