use Rattle.std.proofs.Common.{subst, sym, refl, ap, ◌∙◌}
use Rattle.pt_case.specs.Ending.{is_failure}
use Rattle.pt_found.specs.declared.finding.Verdict.TheVariants.{Passed, GaveUp, Failed}
use Rattle.pt_engine.specs.Finding.{Follows, FailsItself}
use Rattle.pt_found.proofs.VainLemmas.{leads-as_good}
use Rattle.pt_engine.proofs.AgreeLemmas.{leads-own}
use Rattle.pt_engine.proofs.engine.reduce.Goals as goal

pub returns-in-Passed-clause-follows : goal.returns-in-Passed-clause-follows
returns-in-Passed-clause-follows g c =
    subst (λ d. Follows (g.C.Check.step c.args.check.now) c.args.budget d Passed c.empty.result) (sym c.in-Passed.is) (refl, c.empty.ensures)

pub returns-in-GaveUp-clause-follows : goal.returns-in-GaveUp-clause-follows
returns-in-GaveUp-clause-follows g c =
    subst (λ d. Follows (g.C.Check.step c.args.check.now) c.args.budget d GaveUp c.empty-in-GaveUp.result) (sym c.in-GaveUp.is) (refl, c.empty-in-GaveUp.ensures)

pub returns-in_ok-shrunk-in-Failed-clause-follows : goal.returns-in_ok-shrunk-in-Failed-clause-follows
returns-in_ok-shrunk-in-Failed-clause-follows g c =
    let shrunk = c.in_ok-shrunk-in-Failed.shrunk in
    subst (λ d. Follows (g.C.Check.step c.args.check.now) c.args.budget d (Failed shrunk.best c.in-Failed.found shrunk.spent) shrunk.trail) (sym c.in-Failed.is) (
      shrunk.best,
      shrunk.spent,
      refl,
      record {
        legal = c.in_ok-shrunk-in-Failed.ensures.legal;
        is_spent = c.in_ok-shrunk-in-Failed.ensures.spent;
        minimal = c.in_ok-shrunk-in-Failed.ensures.minimal;
        leaps = c.in_ok-shrunk-in-Failed.ensures.leaps;
      },
    )

pub returns-in_ok-shrunk-in-Failed-clause-replays : goal.returns-in_ok-shrunk-in-Failed-clause-replays
returns-in_ok-shrunk-in-Failed-clause-replays g c =
    let step = g.C.Check.step c.args.check.now in
    let shrunk = c.in_ok-shrunk-in-Failed.shrunk in
    let legal = c.in_ok-shrunk-in-Failed.ensures.legal in
    let itself = subst (FailsItself step) c.in-Failed.is c.requires.itself in
    let good = leads-as_good step c.in-Failed.first shrunk.trail legal.strangers shrunk.best legal.leads in
    (leads-own step c.in-Failed.first shrunk.trail legal.strangers shrunk.best legal.leads itself.0, ap is_failure good.alike ∙ itself.1)
