use Rattle.std.proofs.Common.{sym, subst, refl, arith, length-append}
use Rattle.pt_engine.specs.Progress.{Counts}
use Rattle.pt_case.proofs.RunsLemmas.{runs-length}
use Rattle.pt_engine.proofs.CountLemmas.{going-block, going-decided}
use Rattle.pt_case.specs.Runs.{AreRuns}
use Rattle.pt_engine.proofs.runs.count_runs.Goals as goal

pub count-requires-clause-room : goal.count-requires-clause-room
count-requires-clause-room g c =
    let step = g.C.Check.step c.args.check.now in
    let made : AreRuns step c.args.seed c.loop-tally.tally.seen c.from-in-loop-tally.result c.as_slice.result.now =
    subst (AreRuns step c.args.seed c.loop-tally.tally.seen c.from-in-loop-tally.result) (sym c.as_slice.ensures)
    (subst (λ n. AreRuns step c.args.seed n c.from-in-loop-tally.result c.in_ok-records.records) c.from.ensures c.in_ok-records.ensures) in
    let end = runs-length step c.args.seed _ _ _ made in
    let to = c.from-in-loop-tally.ensures in
    let left = c.block_size-block.ensures.2 in
    let room = c.loop-tally-test.true in
    omega (arith, end, to, left, room)

pub returns-in-Some : goal.returns-in-Some
returns-in-Some g c =
    let step = g.C.Check.step c.args.check.now in
    let going = c.loop-tally.invariant.0 in
    let made : AreRuns step c.args.seed c.loop-tally.tally.seen c.from-in-loop-tally.result c.as_slice.result.now =
    subst (AreRuns step c.args.seed c.loop-tally.tally.seen c.from-in-loop-tally.result) (sym c.as_slice.ensures)
    (subst (λ n. AreRuns step c.args.seed n c.from-in-loop-tally.result c.in_ok-records.records) c.from.ensures c.in_ok-records.ensures) in
    let counts = subst (λ d. Counts c.args.runs going.records c.as_slice.result.now d c.count.new.tally) c.in-Some.is
    (c.in_ok-decision.ensures.counts going.records going.undecided going.count) in
    going-decided step c.args.seed c.args.runs c.from-in-loop-tally.result c.as_slice.result.now c.loop-tally.tally c.count.new.tally c.in-Some.decision going made counts

pub loop-tally-preserved : goal.loop-tally-preserved
loop-tally-preserved g c =
    let step = g.C.Check.step c.args.check.now in
    let going = c.loop-tally.invariant.0 in
    let made : AreRuns step c.args.seed c.loop-tally.tally.seen c.from-in-loop-tally.result c.as_slice.result.now =
    subst (AreRuns step c.args.seed c.loop-tally.tally.seen c.from-in-loop-tally.result) (sym c.as_slice.ensures)
    (subst (λ n. AreRuns step c.args.seed n c.from-in-loop-tally.result c.in_ok-records.records) c.from.ensures c.in_ok-records.ensures) in
    let counts = subst (λ d. Counts c.args.runs going.records c.as_slice.result.now d c.count.new.tally) c.in_default.is
    (c.in_ok-decision.ensures.counts going.records going.undecided going.count) in
    let end = runs-length step c.args.seed _ _ _ made in
    let to = c.from-in-loop-tally.ensures in
    let left = c.block_size-block.ensures.2 in
    let room = c.loop-tally-test.true in
    let all = counts.1.all in
    let both = length-append going.records c.as_slice.result.now in
    let before = going.count.all in (
      going-block step c.args.seed c.args.runs c.from-in-loop-tally.result c.as_slice.result.now c.loop-tally.tally c.count.new.tally going made counts,
      c.next_size-size.ensures.0,
      c.next_size-size.ensures.1,
      c.in_ok-decision.ensures.fewer,
      omega (arith, end, to, left, room, all, both, before),
      refl,
      rw counts.1.passing counts.0.not_enough,
    )

pub loop-tally-smaller : goal.loop-tally-smaller
loop-tally-smaller g c =
    let step = g.C.Check.step c.args.check.now in
    let going = c.loop-tally.invariant.0 in
    let made : AreRuns step c.args.seed c.loop-tally.tally.seen c.from-in-loop-tally.result c.as_slice.result.now =
    subst (AreRuns step c.args.seed c.loop-tally.tally.seen c.from-in-loop-tally.result) (sym c.as_slice.ensures)
    (subst (λ n. AreRuns step c.args.seed n c.from-in-loop-tally.result c.in_ok-records.records) c.from.ensures c.in_ok-records.ensures) in
    let counts = subst (λ d. Counts c.args.runs going.records c.as_slice.result.now d c.count.new.tally) c.in_default.is
    (c.in_ok-decision.ensures.counts going.records going.undecided going.count) in
    let end = runs-length step c.args.seed _ _ _ made in
    let to = c.from-in-loop-tally.ensures in
    let some = c.block_size-block.ensures.0 in
    let room = c.loop-tally-test.true in
    let all = counts.1.all in
    let both = length-append going.records c.as_slice.result.now in
    let before = going.count.all in
    omega (arith, end, to, some, room, all, both, before)
