use Rattle.std.proofs.Common.{◌-◌, map}
use Rattle.pt_plan.proofs.DrewLemmas.{Leads}
use Rattle.pt_rules.specs.Machine.{steps_plan}
use Rattle.pt_rules.proofs.run.make_steps.Given as goal

-- as many steps are left as turns
abbrev pub invariant-turns : goal.invariant-turns
invariant-turns g l =
    Leads (steps_plan (map g.R.Rule.meaning l.rules) l.steps l.fn.start) l.fn.case
    (steps_plan (map g.R.Rule.meaning l.rules) (l.steps - l._turn) l.state) l.case
