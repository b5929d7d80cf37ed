use Rattle.std.proofs.Common.{◌∙◌, refl}
use Rattle.pt_all.proofs.SurveyLemmas.{firsts-own, as-many, fault-is}
use Rattle.pt_all.proofs.survey.survey_check.Goals as goal

pub reduce_all-requires-clause-own : goal.reduce_all-requires-clause-own
reduce_all-requires-clause-own g c κs held =
    let counted = c.in_ok-tally.ensures in
    firsts-own (g.C.Check.step c.args.check.now) c.args.seed c.args.runs counted.0 c.in_ok-tally.tally counted.1 counted.2

pub returns-clause-survey : goal.returns-clause-survey
returns-clause-survey g c =
    let step = g.C.Check.step c.args.check.now in
    let counted = c.in_ok-tally.ensures in
    let tally = c.in_ok-tally.tally in
    let reduced = c.in_ok-faults.ensures in
    record {
      records = counted.0;
      window = counted.1;
      named = c.in_ok-name.ensures ∙ c.name.ensures;
      asked = refl;
      seen = counted.2.all;
      valid = counted.2.passing;
      one_each = reduced.one_each ∙ as-many step counted.0 tally counted.2;
      each = λ place fault stands. fault-is step c.args.budget counted.0 tally c.in_ok-faults.faults place fault counted.2 reduced.one_each reduced.each stands;
    }
