use Rattle.std.proofs.Common.{◌≤◌, ◌++◌, length, take, sym, subst, arith}
use Rattle.std.proofs.lemmas.List.{take_all, append-nil}
use Rattle.pt_all.specs.Progress.{IsCount}
use Rattle.pt_all.proofs.CountLemmas.{more, seen-more}
use Rattle.pt_all.proofs.tally.count.Goals as goal

pub loop-rec-init : goal.loop-rec-init
loop-rec-init c before count = subst (λ records. IsCount records c.args.tally.now) (sym (append-nil before)) count

pub count_one-requires : goal.count_one-requires
count_one-requires c =
    let before = c.requires.counted.0 in
    let so_far = c.loop-rec.invariant before c.requires.counted.1 in
    let within = c.loop-rec-test.true in
    let few : c.loop-rec.rec-index ≤ length c.args.block.now = omega (arith, within) in
    let seen = seen-more before c.args.block.now c.loop-rec.rec-index c.args.tally.now c.loop-rec.tally c.requires.counted.1 so_far few in
    let room = c.requires.room in
    record { counted = (before ++ take c.loop-rec.rec-index c.args.block.now, so_far); room = omega (arith, seen, room, within) }

pub loop-rec-preserved : goal.loop-rec-preserved
loop-rec-preserved c before count =
    subst (λ records. IsCount records c.count_one.new.tally) (sym (more before c.args.block.now c.loop-rec.rec-index c.rec-item.result c.loop-rec-test.true c.rec-item.is))
    (c.in_ok-count_one.ensures (before ++ take c.loop-rec.rec-index c.args.block.now) (c.loop-rec.invariant before count))

pub returns : goal.returns
returns c before count =
    subst (λ part. IsCount (before ++ part) c.loop-rec.tally) (take_all c.loop-rec.rec-index c.args.block.now c.loop-rec-test.false) (c.loop-rec.invariant before count)
