use Rattle.std.proofs.Common.{◌≡◌, ◌-◌, ◌+◌, ◌∙◌, Err, refl, rules, arith}
use Rattle.pt_ast.specs.Plain.{plain_machine}
use Rattle.pt_plan.proofs.DrewLemmas.{leads-new, drew-call}
use Rattle.pt_machine.specs.Machine.{or_passed, steps_plan}
use Rattle.pt_machine.proofs.StepLemmas.{next-turn, turn-on, turn-off}
use Rattle.pt_machine.proofs.machine.make_steps.Goals as goal

pub turns-init : goal.turns-init
turns-init c = let all : c.args.steps - 0 ≡ c.args.steps = omega arith in (rw all (leads-new _ _), refl)

pub returns-in_err-next-clause-drew : goal.returns-in_err-next-clause-drew
returns-in_err-next-clause-drew c =
    let machine = plain_machine c.args.machine.now in
    let gave : c.from_residual.result ≡ Err c.in_err-next.field-0.0 = search rules in
    rw gave (drew-call c.in_err-next.ensures.drew (or_passed (λ next. steps_plan machine (c.args.steps - (c.turns._turn + 1)) next))
    (next-turn machine c.turns.world c.args.steps c.turns._turn (omega arith) c.turns.invariant.0))

pub returns-in-None-clause-drew : goal.returns-in-None-clause-drew
returns-in-None-clause-drew c =
    let machine = plain_machine c.args.machine.now in
    turn-off machine (c.args.steps - (c.turns._turn + 1)) c.turns.world
    (next-turn machine c.turns.world c.args.steps c.turns._turn (omega arith) c.turns.invariant.0) (rw c.in-None.is at c.in_ok-next.ensures.drew)

pub turns-preserved : goal.turns-preserved
turns-preserved c =
    let machine = plain_machine c.args.machine.now in (
      turn-on machine (c.args.steps - (c.turns._turn + 1)) c.turns.world c.in-Some.next
          (next-turn machine c.turns.world c.args.steps c.turns._turn (omega arith) c.turns.invariant.0) (rw c.in-Some.is at c.in_ok-next.ensures.drew),
      c.in_ok-next.ensures.closed ∙ c.turns.invariant.1,
    )
