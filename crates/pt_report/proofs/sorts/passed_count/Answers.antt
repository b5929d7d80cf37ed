use Rattle.std.proofs.Common.{rules, tests, ◌∙◌}
use Rattle.std.proofs.lemmas.Iterator.{YieldsList-from_slice}
use Rattle.std.proofs.lemmas.Iterator.Consumers.{count_from_yields_List, YieldsList-from_filter}
use Rattle.std.proofs.lemmas.List.Sums.{length-filter}
use Rattle.pt_found.specs.declared.finding.Finding.{Finding}
use Rattle.pt_report.specs.Sorts.{has_passed}
use Rattle.pt_report.proofs.sorts.passed_count.Goals as goal

pub returns : goal.returns
returns c =
    count_from_yields_List c.filter.result c.count.result c.count.ensures.ran
    (YieldsList-from_filter _ (λ (f : Finding). has_passed f.verdict) (YieldsList-from_slice c.args.findings.now cc) c.filter.ensures.closure (λ x r q k. search (rules, tests)))
    ∙ length-filter (λ (f : Finding). has_passed f.verdict) c.args.findings.now
