use Rattle.std.proofs.Common.{subst, sym, ◌∙◌}
use Rattle.pt_case.specs.Source.{kept_kinds}
use Rattle.pt_case.specs.Step.{IsAsked}
use Rattle.pt_case.proofs.GuidedLemmas.{ran-asked}
use Rattle.pt_case.proofs.traced.guided.Goals as goal

pub returns-clause-kinds : goal.returns-clause-kinds
returns-clause-kinds g c =
    let step = g.C.Check.step c.args.check.now in
    let asked = ran-asked step c.args.list.now c.args.supply c.in_ok-case.case c.run.new.case c.in_ok-ending.ending c.in_ok-ending.ensures c.in_ok-case.ensures in
    let kinds = c.in_ok-kinds.ensures ∙ c.kept_kinds.ensures in
    subst (λ ks. IsAsked step c.finish.result.choices ks) (sym kinds)
    (subst (λ path. IsAsked step path (kept_kinds c.run.new.case.left)) (sym c.finish.ensures.choices) asked)
