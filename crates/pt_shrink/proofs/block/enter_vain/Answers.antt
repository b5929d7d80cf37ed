use Rattle.std.proofs.Common.{Some, ap, arith, length, subst, sym, ◌∙◌, ◌++◌, ◌∷◌, [], ◌<◌, false}
use Rattle.std.specs.List.{Contains}
use Rattle.std.proofs.lemmas.List.{append-nil}
use Rattle.pt_case.specs.Better.{IsBetter}
use Rattle.pt_found.specs.Trail.{lists_of}
use Rattle.pt_shrink.proofs.BlockLemmas.{marked-length, marked-at, strangers-at, block-entered, block-untried, block-length, not_better}
use Rattle.pt_shrink.proofs.block.enter_vain.Goals as goal

pub loop-place-init : goal.loop-place-init
loop-place-init g c =
    (sym (append-nil (lists_of c.args.log.now.trail)), (let n = c.requires.block.counted in let f = c.requires.block.few in omega (arith, n, f)), λ budget first room at. at)

pub bounds-marks-place : goal.bounds-marks-place
bounds-marks-place g c =
    let n = marked-length c.args.best.now c.args.block.now.lists c.args.block.now.marks c.requires.block.marked in
    let m = ap length c.as_slice-marks.ensures in
    omega (arith, n, m)

pub reject-requires-clause-untried : goal.reject-requires-clause-untried
reject-requires-clause-untried g c κs lives =
    let below = c.loop-place-test.true in
    let all = c.requires.within in
    let item = rw c.as_slice-lists.ensures at c.index-lists-place.is in
    subst (λ l. ¬ Contains (lists_of c.loop-place.log.trail) l) (sym c.in_ok-copy.ensures)
    (block-untried (lists_of c.args.log.now.trail) (lists_of c.loop-place.log.trail) c.args.block.now.lists c.loop-place.place c.index-lists-place.result (omega (arith, below, all)) item
    c.loop-place.invariant.0 c.requires.block.new)

pub reject-requires-clause-worse : goal.reject-requires-clause-worse
reject-requires-clause-worse g c κs lives =
    let below = c.loop-place-test.true in
    let all = c.requires.within in
    let item = rw c.as_slice-lists.ensures at c.index-lists-place.is in
    subst (λ l. ¬ IsBetter (g.C.Check.step c.args.check.now) l c.args.best.now) (sym c.in_ok-copy.ensures)
    (not_better (g.C.Check.step c.args.check.now) c.args.best.now c.args.block.now.lists c.loop-place.place c.index-lists-place.result (omega (arith, below, all)) item (c.requires.vain c.loop-place.place below))

pub reject-requires-clause-known : goal.reject-requires-clause-known
reject-requires-clause-known g c κs lives = λ not_marked.
    let below = c.loop-place-test.true in
    let all = c.requires.within in
    let item = rw c.as_slice-lists.ensures at c.index-lists-place.is in
    rw c.in_ok-copy.ensures (marked-at c.args.best.now c.args.block.now.lists c.args.block.now.marks c.loop-place.place c.index-lists-place.result false c.requires.block.marked (omega (arith, below, all)) item
    (rw c.as_slice-marks.ensures at not_marked))

pub loop-place-preserved : goal.loop-place-preserved
loop-place-preserved g c =
    let below = c.loop-place-test.true in
    let all = c.requires.within in
    let within : c.loop-place.place < length c.args.block.now.lists = omega (arith, below, all) in
    let item = rw c.as_slice-lists.ensures at c.index-lists-place.is in
    let many = marked-length c.args.best.now c.args.block.now.lists c.args.block.now.marks c.requires.block.marked in
    let size = block-length c.args.log.now.trail c.loop-place.log.trail c.args.block.now.lists c.loop-place.place (omega (arith, within)) c.loop-place.invariant.0 in
    let counts = strangers-at c.args.block.now.marks c.loop-place.place false (omega (arith, within, many)) in
    let fewer = rw c.as_slice-marks.ensures at c.in_ok-reject.ensures.allowed in
    let few = c.loop-place.invariant.1 in (
      c.in_ok-reject.ensures.entered ∙ ap (λ l. lists_of c.loop-place.log.trail ++ l ∷ []) c.in_ok-copy.ensures
          ∙ block-entered (lists_of c.args.log.now.trail) (lists_of c.loop-place.log.trail) c.args.block.now.lists c.loop-place.place c.index-lists-place.result within item c.loop-place.invariant.0,
      omega (arith, counts, fewer, few),
      (λ budget first room at. c.in_ok-reject.ensures.reached budget first (omega (arith, size, within, room)) (c.loop-place.invariant.2 budget first room at (Some c.in_ok-copy.field-0))),
    )
