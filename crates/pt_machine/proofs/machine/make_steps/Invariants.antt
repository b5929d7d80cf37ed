use Rattle.std.proofs.Common.{◌≡◌, ◌-◌}
use Rattle.pt_ast.specs.Plain.{plain_machine}
use Rattle.pt_plan.specs.Open.{open_spans}
use Rattle.pt_plan.proofs.DrewLemmas.{Leads}
use Rattle.pt_machine.specs.Machine.{steps_plan}
use Rattle.pt_machine.proofs.machine.make_steps.Given as goal

-- as many steps are left as turns
abbrev pub invariant-turns : goal.invariant-turns
invariant-turns l =
    Leads (steps_plan (plain_machine l.machine) l.steps l.fn.start) l.fn.case (steps_plan (plain_machine l.machine) (l.steps - l._turn) l.world) l.case
    × (open_spans l.case ≡ open_spans l.fn.case)
