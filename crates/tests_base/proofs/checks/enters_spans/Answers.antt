use Rattle.std.proofs.Common.{◌≡◌, ◌+◌, ◌-◌, ◌<◌, ℕ, suc, Err, ap, rules, arith}
use Rattle.pt_case.specs.State.{State}
use Rattle.pt_plan.specs.Stop.{draw_stop_of}
use Rattle.pt_plan.specs.Plan.{Plan, Enters, Leaves}
use Rattle.pt_case.specs.declared.ending.Ending.{Ending}
use Rattle.pt_plan.proofs.DrewLemmas.{Leads, leads-is, leads-entered, leads-left, drew-entered, drew-ended}
use Rattle.tests_base.specs.Checks.{crowded_plan}
use Rattle.tests_base.proofs.checks.enters_spans.Goals as goal

-- while turns are left, a span is next
next-span : {plan : Plan Ending} {old now : State} (turns turn : ℕ) → turn < turns → Leads plan old (crowded_plan (turns - turn)) now →
    Leads plan old (Enters 1 (Leaves (crowded_plan (turns - (turn + 1))))) now
next-span turns turn left way =
    let one : turns - turn ≡ suc (turns - (turn + 1)) = omega arith in leads-is way (ap crowded_plan one)

pub returns-in_err-enter-clause-drew : goal.returns-in_err-enter-clause-drew
returns-in_err-enter-clause-drew c =
    let gave : c.from_residual.result ≡ Err (draw_stop_of c.in_err-enter.field-0.0) = search rules in
    rw gave (drew-entered c.in_err-enter.ensures.drew (next-span 1025 c.loop-turn._turn (omega arith) c.loop-turn.invariant))

pub returns-clause-drew : goal.returns-clause-drew
returns-clause-drew c =
    let none : 1025 - c.loop-turn._turn ≡ 0 = omega arith in
    drew-ended (leads-is c.loop-turn.invariant (ap crowded_plan none))

pub loop-turn-preserved : goal.loop-turn-preserved
loop-turn-preserved c =
    leads-left c.leave.ensures.left (leads-entered c.in_ok-enter.ensures.drew (next-span 1025 c.loop-turn._turn (omega arith) c.loop-turn.invariant))
