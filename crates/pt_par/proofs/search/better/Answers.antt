use Rattle.std.proofs.Common.{ap, subst, sym, ◌∙◌, ◌≡◌}
use Rattle.pt_case.specs.declared.record.Record.{Record}
use Rattle.pt_choice.specs.Order.{IsShorter}
use Rattle.pt_par.proofs.search.better.Goals as goal

pub returns-then-improves : goal.returns-then-improves
returns-then-improves g c =
    let improved = c.improves.ensures.0 c.if-improves.true in (
      c.in_ok-rec.ensures,
      record {
        rec = c.in_ok-rec.rec;
        is = c.in_ok-rec.ensures;
        fails = c.requires;
        alike = improved.0;
        shorter = improved.1;
      },
    )

pub returns : goal.returns
returns g c better =
    let same : better.rec ≡ c.in_ok-rec.rec = c.a_list_has_one_record.ensures _ _ _ better.is c.in_ok-rec.ensures in
    let best = c.args.best.now in
    let improves = c.improves.ensures.1 (subst (λ rec. (rec.ending ≡ best.ending) × IsShorter rec.choices best.choices) same (better.alike, better.shorter)) in
    let not = c.if-improves.false in
    cc
