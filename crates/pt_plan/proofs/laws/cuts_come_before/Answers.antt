use Rattle.std.proofs.Common.{◌≤◌, [], arith}
use Rattle.pt_plan.proofs.MarkLemmas.{cut-count, cut-below, cut-met}
use Rattle.pt_plan.proofs.laws.cuts_come_before.Goals as goal

pub returns-clause-count : goal.returns-clause-count
returns-clause-count g c plan count choices spans notes cut = cut-count count plan 0 [] [] choices (spans, notes) cut

pub returns-clause-fewer : goal.returns-clause-fewer
returns-clause-fewer g c plan count choices rest spans notes mark cut stands = cut-below count plan 0 [] [] choices rest (spans, notes) mark cut stands

pub returns-clause-met : goal.returns-clause-met
returns-clause-met g c plan count list mark stands fewer =
    let met = cut-met count plan 0 [] [] list mark stands (let least : 0 ≤ count = omega arith in least) fewer in
    (met.0, met.1, met.2.0, met.2.1, met.3, met.4)
