use Rattle.std.proofs.Common.{◌≡◌, Err, rules}
use Rattle.pt_plan.specs.Plan.{Gives, Notes}
use Rattle.pt_plan.proofs.DrewLemmas.{leads-new, leads-call, leads-noted, drew-from, drew-ended}
use Rattle.pt_typed.specs.Fail.{stop_of}
use Rattle.pt_typed.specs.Property.{value_note, property_plan}
use Rattle.pt_typed.proofs.DrawLemmas.{stop-means}
use Rattle.pt_typed.proofs.property.Property.judged.Goals as goal

pub returns-in_err-value-clause-drew : goal.returns-in_err-value-clause-drew
returns-in_err-value-clause-drew g c =
    let inner = g.S.Strategy.plan c.args.self.now.inner in
    let verdict = g.F.Judge.verdict c.args.self.now.judge in
    let gave : c.from_residual.result ≡ Err (stop_of c.in_err-value.field-0.0) = search rules in
    rw gave (drew-from (stop-means c.in_err-value.field-0.0) c.in_err-value.ensures.drew (λ value. Notes (value_note value) (Gives (verdict value)))
    (leads-new (property_plan inner verdict) c.args.case.now))

pub returns-clause-drew : goal.returns-clause-drew
returns-clause-drew g c =
    let inner = g.S.Strategy.plan c.args.self.now.inner in
    let verdict = g.F.Judge.verdict c.args.self.now.judge in
    let drawn = leads-call c.in_ok-value.ensures.drew (λ value. Notes (value_note value) (Gives (verdict value))) (leads-new (property_plan inner verdict) c.args.case.now) in
    let noted = leads-noted (rw (c.in_ok-value_word.ensures, c.in_ok-to_val.ensures) at c.in_ok-note.ensures.drew) drawn in
    rw c.in_ok-judge.ensures.verdict (drew-ended noted)
