use Rattle.std.proofs.Common.{Some, None, ap, arith, length, subst, sym, ◌∙◌}
use Rattle.std.specs.List.{Contains}
use Rattle.pt_case.specs.Better.{IsBetter}
use Rattle.pt_case.specs.Run.{IsRecord}
use Rattle.pt_found.specs.Trail.{lists_of}
use Rattle.pt_shrink.proofs.ProgressLemmas.{grows-trans, grows-entered, entered-longer}
use Rattle.pt_shrink.proofs.BlockLemmas.{block-untried, block-length, block-grows, least-known, hit-list, hit-within, hit-fails}
use Rattle.pt_shrink.proofs.block.try_block.Goals as goal

pub enter_vain-requires-clause-vain : goal.enter_vain-requires-clause-vain
enter_vain-requires-clause-vain g c κs lives = λ place below.
    least-known (g.C.Check.step c.args.check.now) c.args.best.now c.args.block.now.lists c.in_ok-first_better.field-0 None c.in-None.is c.in_ok-first_better.ensures place

pub enter_vain-requires-in-Some-clause-within : goal.enter_vain-requires-in-Some-clause-within
enter_vain-requires-in-Some-clause-within g c κs lives =
    let found = least-known (g.C.Check.step c.args.check.now) c.args.best.now c.args.block.now.lists c.in_ok-first_better.field-0 (Some c.in-Some.hit) c.in-Some.is c.in_ok-first_better.ensures in
    let within = hit-within (g.C.Check.step c.args.check.now) c.args.best.now c.args.block.now.lists c.in-Some.hit found.0 in
    omega (arith, within)

pub offset_bounds-as_slice-hit : goal.offset_bounds-as_slice-hit
offset_bounds-as_slice-hit g c =
    let found = least-known (g.C.Check.step c.args.check.now) c.args.best.now c.args.block.now.lists c.in_ok-first_better.field-0 (Some c.in-Some.hit) c.in-Some.is c.in_ok-first_better.ensures in
    let within = hit-within (g.C.Check.step c.args.check.now) c.args.best.now c.args.block.now.lists c.in-Some.hit found.0 in
    let few = c.requires.short.0 in
    omega (arith, within, few)

pub bounds-as_slice-hit : goal.bounds-as_slice-hit
bounds-as_slice-hit g c =
    let found = least-known (g.C.Check.step c.args.check.now) c.args.best.now c.args.block.now.lists c.in_ok-first_better.field-0 (Some c.in-Some.hit) c.in-Some.is c.in_ok-first_better.ensures in
    let within = hit-within (g.C.Check.step c.args.check.now) c.args.best.now c.args.block.now.lists c.in-Some.hit found.0 in
    let all = ap length c.as_slice.ensures in
    omega (arith, within, all)

pub accept-requires-clause-untried : goal.accept-requires-clause-untried
accept-requires-clause-untried g c κs lives =
    let found = least-known (g.C.Check.step c.args.check.now) c.args.best.now c.args.block.now.lists c.in_ok-first_better.field-0 (Some c.in-Some.hit) c.in-Some.is c.in_ok-first_better.ensures in
    let item = rw c.as_slice.ensures at c.index-as_slice-hit.is in
    subst (λ l. ¬ Contains (lists_of c.enter_vain-in-Some.new.log.trail) l) (sym c.in_ok-list-in-Some.ensures)
    (block-untried (lists_of c.args.log.now.trail) (lists_of c.enter_vain-in-Some.new.log.trail) c.args.block.now.lists c.in-Some.hit.at c.index-as_slice-hit.result (hit-within (g.C.Check.step c.args.check.now) c.args.best.now c.args.block.now.lists c.in-Some.hit found.0) item
    c.in_ok-enter_vain-in-Some.ensures.entered c.requires.block.new)

pub accept-requires-clause-is : goal.accept-requires-clause-is
accept-requires-clause-is g c κs lives =
    let found = least-known (g.C.Check.step c.args.check.now) c.args.best.now c.args.block.now.lists c.in_ok-first_better.field-0 (Some c.in-Some.hit) c.in-Some.is c.in_ok-first_better.ensures in
    let item = rw c.as_slice.ensures at c.index-as_slice-hit.is in
    subst (λ l. IsRecord (g.C.Check.step c.args.check.now) l c.in-Some.hit.rec)
    (hit-list (g.C.Check.step c.args.check.now) c.args.best.now c.args.block.now.lists c.in-Some.hit c.index-as_slice-hit.result found.0 item ∙ sym c.in_ok-list-in-Some.ensures) found.0.is

pub accept-requires-clause-better : goal.accept-requires-clause-better
accept-requires-clause-better g c κs lives =
    let found = least-known (g.C.Check.step c.args.check.now) c.args.best.now c.args.block.now.lists c.in_ok-first_better.field-0 (Some c.in-Some.hit) c.in-Some.is c.in_ok-first_better.ensures in
    let item = rw c.as_slice.ensures at c.index-as_slice-hit.is in
    subst (λ l. IsBetter (g.C.Check.step c.args.check.now) l c.args.best.now)
    (hit-list (g.C.Check.step c.args.check.now) c.args.best.now c.args.block.now.lists c.in-Some.hit c.index-as_slice-hit.result found.0 item ∙ sym c.in_ok-list-in-Some.ensures) found.0.better

pub returns-in_ok-enter_vain-in-None-clause-reached : goal.returns-in_ok-enter_vain-in-None-clause-reached
returns-in_ok-enter_vain-in-None-clause-reached g c = λ first at. c.in_ok-enter_vain-in-None.ensures.reached c.args.budget first c.requires.short.1 at

pub returns-in_ok-accept-in-Some-clause-reached : goal.returns-in_ok-accept-in-Some-clause-reached
returns-in_ok-accept-in-Some-clause-reached g c = λ first at.
    let found = least-known (g.C.Check.step c.args.check.now) c.args.best.now c.args.block.now.lists c.in_ok-first_better.field-0 (Some c.in-Some.hit) c.in-Some.is c.in_ok-first_better.ensures in
    let within = hit-within (g.C.Check.step c.args.check.now) c.args.best.now c.args.block.now.lists c.in-Some.hit found.0 in
    let size = block-length c.args.log.now.trail c.enter_vain-in-Some.new.log.trail c.args.block.now.lists c.in-Some.hit.at (omega (arith, within)) c.in_ok-enter_vain-in-Some.ensures.entered in
    let room = c.requires.short.1 in
    c.in_ok-accept-in-Some.ensures.reached c.args.budget first (omega (arith, size, within, room))
    (c.in_ok-enter_vain-in-Some.ensures.reached c.args.budget first room at (Some c.in_ok-list-in-Some.list))

pub returns-in_ok-accept-in-Some-clause-grows : goal.returns-in_ok-accept-in-Some-clause-grows
returns-in_ok-accept-in-Some-clause-grows g c =
    let found = least-known (g.C.Check.step c.args.check.now) c.args.best.now c.args.block.now.lists c.in_ok-first_better.field-0 (Some c.in-Some.hit) c.in-Some.is c.in_ok-first_better.ensures in
    let within = hit-within (g.C.Check.step c.args.check.now) c.args.best.now c.args.block.now.lists c.in-Some.hit found.0 in
    let size = block-length c.args.log.now.trail c.enter_vain-in-Some.new.log.trail c.args.block.now.lists c.in-Some.hit.at (omega (arith, within)) c.in_ok-enter_vain-in-Some.ensures.entered in
    let room = c.requires.short.1 in
    grows-trans c.args.budget c.args.log.now c.enter_vain-in-Some.new.log c.accept.new.log
    (block-grows c.args.budget c.args.log.now c.enter_vain-in-Some.new.log c.args.block.now.lists c.in-Some.hit.at (omega (arith, within)) room c.in_ok-enter_vain-in-Some.ensures.entered)
    (grows-entered c.args.budget c.enter_vain-in-Some.new.log c.accept.new.log c.in_ok-list-in-Some.list c.in_ok-accept-in-Some.ensures.entered (omega (arith, size, within, room)))

pub returns-in_ok-accept-in-Some-clause-longer : goal.returns-in_ok-accept-in-Some-clause-longer
returns-in_ok-accept-in-Some-clause-longer g c =
    let found = least-known (g.C.Check.step c.args.check.now) c.args.best.now c.args.block.now.lists c.in_ok-first_better.field-0 (Some c.in-Some.hit) c.in-Some.is c.in_ok-first_better.ensures in
    let within = hit-within (g.C.Check.step c.args.check.now) c.args.best.now c.args.block.now.lists c.in-Some.hit found.0 in
    let size = block-length c.args.log.now.trail c.enter_vain-in-Some.new.log.trail c.args.block.now.lists c.in-Some.hit.at (omega (arith, within)) c.in_ok-enter_vain-in-Some.ensures.entered in
    let more = entered-longer c.enter_vain-in-Some.new.log c.accept.new.log c.in_ok-list-in-Some.list c.in_ok-accept-in-Some.ensures.entered in
    let left = c.in_ok-accept-in-Some.ensures.allowed in (
      omega (arith, size, more),
      hit-fails (g.C.Check.step c.args.check.now) c.args.best.now c.args.block.now.lists c.in-Some.hit found.0 c.requires.fails,
      omega (arith, left),
    )
