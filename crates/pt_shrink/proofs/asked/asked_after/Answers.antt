use Rattle.std.proofs.Common.{Some, length, sym, ap, ◌∙◌, arith}
use Rattle.pt_shrink.proofs.AskedLemmas.{leap-place, leap-was, leap-now, leap-asked, leap-differs, leap-within, choice_same, none_some}
use Rattle.pt_shrink.proofs.asked.asked_after.Goals as goal

pub returns-then-place-before : goal.returns-then-place-before
returns-then-place-before c asked leap =
    let within = leap-within c.args.old.now c.args.new.now asked leap in
    let all = c.if-place-before.true in
    let here = ap length c.as_slice-before.ensures in
    let same = c.first_difference-place.ensures.same (length leap.front) (omega arith) (omega (arith, within, all, here)) in
    absurd (leap-differs c.args.old.now c.args.new.now asked leap (rw c.as_slice-here.ensures at rw c.as_slice-before.ensures at same))

pub returns-in-None : goal.returns-in-None
returns-in-None c asked leap =
    let at_most = c.first_difference-place.ensures.place in
    let not_all = c.if-place-before.false in
    let differ = rw c.as_slice-here.ensures at rw c.as_slice-before.ensures at (c.first_difference-place.ensures.differ (omega (arith, at_most, not_all))) in
    let at = leap-place c.args.old.now c.args.new.now asked c.first_difference-place.result leap differ in
    let was = rw c.as_slice-before.ensures at c.index-before-place.is in
    let now = rw c.as_slice-here.ensures at c.index-here-place.is in
    let to = c.leap_to.ensures leap.was leap.now leap.size (was ∙ leap-was c.args.old.now c.args.new.now asked c.first_difference-place.result c.index-before-place.result leap at)
    (now ∙ leap-now c.args.old.now c.args.new.now asked c.first_difference-place.result c.index-here-place.result leap at) leap.moved leap.stepped leap.room in
    none_some (sym c.in-None.is ∙ to)

pub returns-in_ok-replaced-in-Some : goal.returns-in_ok-replaced-in-Some
returns-in_ok-replaced-in-Some c asked leap =
    let at_most = c.first_difference-place.ensures.place in
    let not_all = c.if-place-before.false in
    let differ = rw c.as_slice-here.ensures at rw c.as_slice-before.ensures at (c.first_difference-place.ensures.differ (omega (arith, at_most, not_all))) in
    let at = leap-place c.args.old.now c.args.new.now asked c.first_difference-place.result leap differ in
    let was = rw c.as_slice-before.ensures at c.index-before-place.is in
    let now = rw c.as_slice-here.ensures at c.index-here-place.is in
    let to = c.leap_to.ensures leap.was leap.now leap.size (was ∙ leap-was c.args.old.now c.args.new.now asked c.first_difference-place.result c.index-before-place.result leap at)
    (now ∙ leap-now c.args.old.now c.args.new.now asked c.first_difference-place.result c.index-here-place.result leap at) leap.moved leap.stepped leap.room in
    let value = choice_same (sym c.in-Some.is ∙ to) in
    ap Some (rw c.as_slice-here.ensures at c.in_ok-replaced-in-Some.ensures ∙ leap-asked c.args.old.now c.args.new.now asked c.first_difference-place.result c.in-Some.choice leap at value)

pub returns-then-next-before : goal.returns-then-next-before
returns-then-next-before c asked leap =
    let at_most = c.first_difference-place.ensures.place in
    let not_all = c.if-place-before.false in
    let differ = rw c.as_slice-here.ensures at rw c.as_slice-before.ensures at (c.first_difference-place.ensures.differ (omega (arith, at_most, not_all))) in
    let at = leap-place c.args.old.now c.args.new.now asked c.first_difference-place.result leap differ in
    let further = rw c.as_slice-here.ensures at rw c.as_slice-before.ensures at (c.first_difference-next.ensures.differ c.if-next-before.true) in
    let there = leap-place c.args.old.now c.args.new.now asked c.first_difference-next.result leap further in
    let behind = c.first_difference-next.ensures.behind in
    absurd (omega (arith, at, there, behind))
