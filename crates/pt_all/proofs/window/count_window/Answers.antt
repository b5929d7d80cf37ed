use Rattle.std.proofs.Common.{◌≡◌, ◌⊎◌, ◌*◌, refl, sym, subst, arith, inl, inr}
use Rattle.pt_case.specs.Runs.{AreRuns}
use Rattle.pt_case.proofs.RunsLemmas.{runs-length}
use Rattle.pt_all.proofs.WindowLemmas.{going-block, going-counts, going-window}
use Rattle.pt_all.proofs.window.count_window.Goals.{then-loop-tally-test+else-tally-most, else-loop-tally-test}
use Rattle.pt_all.proofs.window.count_window.Goals as goal

pub count-requires-clause-room : goal.count-requires-clause-room
count-requires-clause-room g c =
    let step = g.C.Check.step c.args.check.now in
    let made : AreRuns step c.args.seed c.loop-tally.tally.seen c.from-in-loop-tally.result c.as_slice.result.now =
    subst (AreRuns step c.args.seed c.loop-tally.tally.seen c.from-in-loop-tally.result) (sym c.as_slice.ensures)
    (subst (λ n. AreRuns step c.args.seed n c.from-in-loop-tally.result c.in_ok-records.records) c.from.ensures c.in_ok-records.ensures) in
    let end = runs-length step c.args.seed _ _ _ made in
    let to = c.from-in-loop-tally.ensures in
    let left = c.block_size-block.ensures.2 in
    let room = c.if-tally-most.true in
    let most = c.requires.most in
    omega (arith, end, to, left, room, most)

pub loop-tally-preserved : goal.loop-tally-preserved
loop-tally-preserved g c =
    let step = g.C.Check.step c.args.check.now in
    let made : AreRuns step c.args.seed c.loop-tally.tally.seen c.from-in-loop-tally.result c.as_slice.result.now =
    subst (AreRuns step c.args.seed c.loop-tally.tally.seen c.from-in-loop-tally.result) (sym c.as_slice.ensures)
    (subst (λ n. AreRuns step c.args.seed n c.from-in-loop-tally.result c.in_ok-records.records) c.from.ensures c.in_ok-records.ensures) in
    let going = c.loop-tally.invariant.0 in
    let count = c.in_ok-count.ensures going.records going.count in
    let end = runs-length step c.args.seed _ _ _ made in
    let to = c.from-in-loop-tally.ensures in
    let size = c.block_size-block.ensures in
    let room = c.if-tally-most.true in
    let missing = c.loop-tally-test.true in
    let counts = going-counts step c.args.seed c.args.runs c.from-in-loop-tally.result c.as_slice.result.now c.loop-tally.tally c.count.new.tally going made count in (
      going-block step c.args.seed c.args.runs c.from-in-loop-tally.result c.as_slice.result.now c.loop-tally.tally c.count.new.tally going made count
          (omega (arith, end, to, size.3, missing)),
      omega (arith, counts.1, end, to, size.3, missing),
      omega (arith, counts.0, to, size.2, room),
      refl,
    )

pub returns : goal.returns
returns g c =
    let step = g.C.Check.step c.args.check.now in
    let going = c.loop-tally.invariant.0 in
    let few = c.loop-tally.invariant.1 in
    let short = c.loop-tally.invariant.2 in
    let enough : (c.loop-tally.tally.settled ≡ c.args.runs) ⊎ (c.loop-tally.tally.seen ≡ 10 * c.args.runs) = elim c.loop-tally-test.branch [
      | then-loop-tally-test+else-tally-most w ↦ inr (let past = w.if-tally-most.false in omega (arith, past, short))
      | else-loop-tally-test w ↦ inl (let past = w.loop-tally-test.false in omega (arith, past, few))
    ] in
    (going.records, going-window step c.args.seed c.args.runs c.loop-tally.tally going short enough, going.count)
