use Rattle.std.proofs.Common.{sym, ap, subst, refl, arith, ◌+◌, ◌-◌, ◌++◌, Some}
use Rattle.std.proofs.lemmas.List.{take_all}
use Rattle.pt_found.specs.declared.finding.Found.TheVariants.{Run}
use Rattle.pt_engine.specs.declared.outcome.Decision.TheVariants.{Failed}
use Rattle.pt_engine.specs.declared.tally.Tally.{Tally}
use Rattle.pt_engine.specs.Outcome.{AreOpen}
use Rattle.pt_engine.specs.Progress.{IsCount, Counts}
use Rattle.pt_engine.proofs.CountLemmas.{at_most_one, block-open, block-failed, block-passed}
use Rattle.pt_engine.proofs.tally.count.Goals as goal

pub returns-then-is_failure-clause-counts : goal.returns-then-is_failure-clause-counts
returns-then-is_failure-clause-counts c before undecided count =
    let new : Tally = record { seen = c.loop-rec.tally.seen + 1; valid = c.loop-rec.tally.valid + c.passes.result } in
    let room = c.requires.room in
    let at = c.loop-rec.invariant.0 in
    let within = c.loop-rec-test.true in
    subst (λ rec. Counts c.args.runs before c.args.block.now (Some (Failed rec (Run (c.loop-rec.tally.seen + 1 - 1)))) new) (sym c.in_ok-copy.ensures)
    (block-failed c.args.runs before c.args.block.now c.loop-rec.rec-index c.rec-item.result (c.loop-rec.tally.seen + 1 - 1) c.loop-rec.tally new within c.rec-item.is
    (c.loop-rec.invariant.2 before undecided count) (omega (arith, room, at, within)) refl (ap (λ n. c.loop-rec.tally.valid + n) c.passes.ensures) (sym c.if-is_failure.ensures) (omega arith))

pub returns-then-tally-runs-clause-counts : goal.returns-then-tally-runs-clause-counts
returns-then-tally-runs-clause-counts c before undecided count =
    let new : Tally = record { seen = c.loop-rec.tally.seen + 1; valid = c.loop-rec.tally.valid + c.passes.result } in
    let room = c.requires.room in
    let at = c.loop-rec.invariant.0 in
    let within = c.loop-rec-test.true in
    block-passed c.args.runs before c.args.block.now c.loop-rec.rec-index c.rec-item.result c.loop-rec.tally new within c.rec-item.is
    (c.loop-rec.invariant.2 before undecided count) (omega (arith, room, at, within)) refl (ap (λ n. c.loop-rec.tally.valid + n) c.passes.ensures) c.if-tally-runs.true

pub loop-rec-preserved : goal.loop-rec-preserved
loop-rec-preserved c =
    let new : Tally = record { seen = c.loop-rec.tally.seen + 1; valid = c.loop-rec.tally.valid + c.passes.result } in
    let at = c.loop-rec.invariant.0 in
    let fewer = c.loop-rec.invariant.1 in
    let one = at_most_one c.rec-item.result c.passes.result c.passes.ensures in (
      omega (arith, at),
      omega (arith, fewer, one),
      λ before undecided count.
          block-open c.args.runs before c.args.block.now c.loop-rec.rec-index c.rec-item.result c.loop-rec.tally new c.loop-rec-test.true c.rec-item.is
          (c.loop-rec.invariant.2 before undecided count) refl (ap (λ n. c.loop-rec.tally.valid + n) c.passes.ensures) (sym c.if-is_failure.ensures) c.if-tally-runs.false,
    )

pub returns-clause-counts : goal.returns-clause-counts
returns-clause-counts c before undecided count =
    subst (λ part. AreOpen c.args.runs (before ++ part) × IsCount (before ++ part) c.loop-rec.tally)
    (take_all c.loop-rec.rec-index c.args.block.now c.loop-rec-test.false) (c.loop-rec.invariant.2 before undecided count)
