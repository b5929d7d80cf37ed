use Rattle.std.proofs.Common.{◌≡◌, sym, ◌∙◌, ap, subst, to_z, of_z, rules}
use Rattle.std.specs.Int.{w64}
use Rattle.pt_plan.specs.Came.{Drew}
use Rattle.pt_plan.specs.Stop.{draw_halt}
use Rattle.pt_checks.specs.Counter.{digit_plan}
use Rattle.pt_checks.proofs.CounterLemmas.{add-from}
use Rattle.pt_checks.proofs.counter.draw_next.Goals as goal

pub returns-then-is_from : goal.returns-then-is_from
returns-then-is_from c =
    let count : to_z w64 (of_z w64 c.count_of.result) ≡ c.count_of.result = search rules in
    let from = ap digit_plan c.count_of.ensures.count ∙ add-from c.args.state.now (sym c.is_from.ensures ∙ c.if-is_from.true) in
    record { drew = subst (λ plan. Drew draw_halt plan c.args.case.now c.draw_sum.new.case c.draw_sum.result) from (rw count at c.draw_sum.ensures.drew) }
