use Rattle.std.proofs.Common.{◌≡◌, ℕ, ◌+◌, ◌-◌, [], length, map, vec_len}
use Rattle.pt_plan.specs.Open.{open_spans}
use Rattle.pt_plan.proofs.DrewLemmas.{Leads}
use Rattle.pt_typed.specs.Plans.{elements_plan}
use Rattle.pt_typed.proofs.list_of.draw_elements.Given as goal

-- there is room for the elements that are left, and the plan goes on with these
abbrev pub invariant-growing : goal.invariant-growing
invariant-growing g l =
    (room : ℕ) × (room + length l.elements.items ≡ l.max)
    × Leads (elements_plan (g.S.Strategy.plan l.inner) l.min l.max []) l.fn.case
    (elements_plan (g.S.Strategy.plan l.inner) l.min room (map g.S.Value.ToVal.val l.elements.items)) l.case
    × (open_spans l.case ≡ open_spans l.fn.case)

abbrev pub decreases-growing : goal.decreases-growing
decreases-growing g l = l.max - vec_len l.elements
