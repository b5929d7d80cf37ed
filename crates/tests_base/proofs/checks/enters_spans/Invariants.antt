use Rattle.std.proofs.Common.{◌-◌}
use Rattle.pt_plan.proofs.DrewLemmas.{Leads}
use Rattle.tests_base.specs.Checks.{crowded_plan}
use Rattle.tests_base.proofs.checks.enters_spans.Given as goal

-- as many spans are left to enter as turns
abbrev pub invariant-loop-turn : goal.invariant-loop-turn
invariant-loop-turn l = Leads (crowded_plan 1025) l.fn.case (crowded_plan (1025 - l._turn)) l.case
