use Rattle.pt_all.proofs.ReducedLemmas.{reduced-replays}
use Rattle.pt_all.proofs.reductions.reduce.Goals as goal

pub returns-clause-replays : goal.returns-clause-replays
returns-clause-replays g c =
    let shrunk = c.in_ok-shrunk.shrunk in
    reduced-replays (g.C.Check.step c.args.check.now) c.args.first.rec
    (record { run = c.args.first.run; times = c.args.first.times; shown = shrunk.best; trail = shrunk.trail; budget = c.args.budget; spent = shrunk.spent })
    (record {
      legal = c.in_ok-shrunk.ensures.legal;
      is_spent = c.in_ok-shrunk.ensures.spent;
      minimal = c.in_ok-shrunk.ensures.minimal;
      leaps = c.in_ok-shrunk.ensures.leaps;
    }) c.requires.own c.requires.fails
