use Rattle.std.proofs.Common.{◌≡◌, true, None, Some, Err, rules}
use Rattle.pt_plan.specs.Plan.{Gives, and_then}
use Rattle.pt_plan.proofs.DrewLemmas.{leads-new, leads-true, leads-call, drew-call, drew-ended}
use Rattle.pt_typed.specs.Plans.{element_if}
use Rattle.pt_typed.proofs.list_of.draw_if.Goals as goal

pub returns-in_err-draw_from-clause-drew : goal.returns-in_err-draw_from-clause-drew
returns-in_err-draw_from-clause-drew g c =
    let element = g.S.Strategy.plan c.args.inner.now in
    let yes : c.args.more ≡ true = search rules in
    let gave : c.from_residual.result ≡ Err c.in_err-draw_from.field-0.0 = search rules in
    let way = leads-true (and_then element (λ value. Gives (Some value))) (Gives None) yes (leads-new (element_if element c.args.more) c.args.case.now) in
    rw gave (drew-call c.in_err-draw_from.ensures.drew (λ value. Gives (Some value)) way)

pub returns-then-more-clause-drew : goal.returns-then-more-clause-drew
returns-then-more-clause-drew g c =
    let element = g.S.Strategy.plan c.args.inner.now in
    let yes : c.args.more ≡ true = search rules in
    let way = leads-true (and_then element (λ value. Gives (Some value))) (Gives None) yes (leads-new (element_if element c.args.more) c.args.case.now) in
    drew-ended (leads-call c.in_ok-draw_from.ensures.drew (λ value. Gives (Some value)) way)
