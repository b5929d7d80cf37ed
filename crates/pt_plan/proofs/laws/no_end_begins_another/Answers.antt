use Rattle.std.proofs.Common.{[], ◌∙◌, sym}
use Rattle.pt_plan.proofs.MarkLemmas.{mark-ends, cut-ends}
use Rattle.pt_plan.proofs.laws.no_end_begins_another.Goals as goal

pub returns-clause-stands : goal.returns-clause-stands
returns-clause-stands g c plan choices next rest last later is ends stands =
    let none = mark-ends plan 0 [] [] choices next rest last is ends in let e = sym none ∙ stands in cc

pub returns-clause-cut : goal.returns-clause-cut
returns-clause-cut g c plan choices next rest last is ends count spans notes cut =
    let none = cut-ends count plan 0 [] [] choices next rest last is ends in let e = sym none ∙ cut in cc
