use Rattle.std.proofs.Common.{map}
use Rattle.pt_made.specs.Lines.{made_suite}
use Rattle.pt_commands.proofs.Made.{made-items, made-ready}
use Rattle.pt_commands.proofs.making.make.Goals as goal

pub returns-clause-sums : goal.returns-clause-sums
returns-clause-sums g c = record {
  examined = made-items g.C.Check.name g.C.Check.step c.args.checks.now c.args.seed c.in_ok-suite.suite c.items.result.now (made_suite c.args.seed c.args.count)
      c.in_ok-findings.findings c.sum_up.result.findings c.items.ensures.items c.in_ok-suite.ensures.made c.sum_up.ensures.same c.in_ok-findings.ensures;
  replayed = c.sum_up.ensures.replayed;
  clash = c.sum_up.ensures.clash;
  told = c.sum_up.ensures.told;
}

pub examine_all-requires-clause-ready : goal.examine_all-requires-clause-ready
examine_all-requires-clause-ready g c κs within =
    let known = map g.C.Check.name c.args.checks.now in
    made-ready known c.in_ok-suite.suite c.items.result.now c.sound_items_are_ready.ensures c.items.ensures.items (c.in_ok-suite.ensures.sound known)
