use Rattle.std.proofs.Common.{◌≡◌, ◌+◌, ◌-◌, ◌<◌, ◌≤◌, ◌++◌, ◌∷◌, [], ℕ, Some, None, length, sym, ◌∙◌, subst, ap, arith, rules}
use Rattle.std.specs.Prelude.{get_or, slice_set}
use Rattle.pt_tree.specs.Above.{IsNextList}
use Rattle.pt_tree.proofs.CountingLemmas.{IsCounting, IsAt, counting-at, counting-zeroed, counting-raised, counting-longer, counting-none}
use Rattle.pt_tree.proofs.above.next_octets.Goals as goal

pub returns-then-from-size : goal.returns-then-from-size
returns-then-from-size c =
    let index : ℕ = c.loop-index.index - 1 in
    let at = counting-at c.args.size c.args.after.now c.loop-index.index index c.loop-index.places.items c.index-place.result.now
    c.loop-index.invariant (omega (arith, c.loop-index-test.true)) c.index-place.ensures in
    let room : c.index-place.result.now + 1 < c.args.size = omega (arith, c.from.ensures, c.if-from-size.true) in
    let next = counting-raised c.args.size c.args.max c.args.after.now index c.index-place.result.now c.loop-index.places.items at c.requires.few room in
    record { next = subst (λ xs. IsNextList c.args.size c.args.max c.args.after.now (Some xs)) (sym c.from-then-from-size.ensures) next }

pub loop-index-preserved : goal.loop-index-preserved
loop-index-preserved c =
    let index : ℕ = c.loop-index.index - 1 in
    let at = counting-at c.args.size c.args.after.now c.loop-index.index index c.loop-index.places.items c.index-place.result.now
    c.loop-index.invariant (omega (arith, c.loop-index-test.true)) c.index-place.ensures in
    counting-zeroed c.args.size c.args.after.now index c.index-place.result.now c.loop-index.places.items at
    (omega (arith, c.from.ensures, c.if-from-size.false))

pub returns-then-len-from : goal.returns-then-len-from
returns-then-len-from c =
    let none : c.loop-index.index ≡ 0 = omega (arith, c.loop-index-test.false) in
    let was = subst (λ n. IsCounting c.args.size c.args.after.now n c.loop-index.places.items) none c.loop-index.invariant in
    let long : length c.loop-index.places.items < c.args.max = search rules in
    let next = counting-longer c.args.size c.args.max c.args.after.now c.loop-index.places.items was (omega (arith, c.requires.size)) long in
    record { next = subst (λ xs. IsNextList c.args.size c.args.max c.args.after.now (Some xs)) (sym (c.from-then-len-from.ensures ∙ c.in_ok-push.ensures.items)) next }

pub returns : goal.returns
returns c =
    let none : c.loop-index.index ≡ 0 = omega (arith, c.loop-index-test.false) in
    let was = subst (λ n. IsCounting c.args.size c.args.after.now n c.loop-index.places.items) none c.loop-index.invariant in
    let long : c.args.max ≤ length c.loop-index.places.items = search rules in
    record { next = counting-none c.args.size c.args.max c.args.after.now c.loop-index.places.items was long }
