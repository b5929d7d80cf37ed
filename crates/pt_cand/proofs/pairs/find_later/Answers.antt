use Rattle.std.proofs.Common.{◌≡◌, ◌<◌, ◌+◌, Some, None, slice_get, sym, ◌∙◌, arith, rules, to_z, of_z, length, ap}
use Rattle.std.proofs.lemmas.Int.{to_z-of_z}
use mir.Syntax.{w128}
use mir.Val.{SFits}
use Rattle.pt_choice.specs.declared.choice.Choice.TheVariants as choice
use Rattle.pt_cand.specs.Left.{moved_by}
use Rattle.pt_cand.proofs.PairLemmas.{pairs-here, pairs-over, pairs-other, pairs-past}
use Rattle.pt_cand.proofs.pairs.find_later.Goals as goal
use Rattle.pt_cand.proofs.pairs.find_later.Goals.{in-Int+in_default-moved, in_default}

pub returns-in-Some : goal.returns-in-Some
returns-in-Some c =
    let d = c.index-choices-second.result in
    let one = to_z-of_z w128 c.args.one c.ranges.one in
    let fits : SFits w128 c.in-Int.other = search rules in
    let other = to_z-of_z w128 c.in-Int.other fits in
    let first_fits : SFits w128 c.in-Some.pair.0 = search rules in
    let second_fits : SFits w128 c.in-Some.pair.1 = search rules in
    let found : slice_get (moved_by c.args.together c.args.one c.in-Int.other) c.loop-inner.slot ≡ Some c.in-Some.pair =
    ap (λ v. slice_get (moved_by c.args.together v c.in-Int.other) c.loop-inner.slot) (sym one)
    ∙ ap (λ v. slice_get (moved_by c.args.together (to_z w128 (of_z w128 c.args.one)) v) c.loop-inner.slot) (sym other) ∙ sym c.moved.ensures ∙ c.in-Some.is in
    let low : c.args.at.place + 1 + c.loop-inner.inner < length c.args.choices.now = omega (arith, c.loop-inner-test.true) in
    rw (to_z-of_z w128 c.in-Some.pair.0 first_fits, to_z-of_z w128 c.in-Some.pair.1 second_fits)
    (c.loop-inner.invariant
    ∙ pairs-here (moved_by c.args.together) c.args.choices.now c.args.at.place d c.requires.within c.loop-inner.inner c.loop-inner.slot c.args.one c.in-Int.other c.in-Some.pair
    (c.requires.given d) (sym c.index-choices-second.is ∙ c.in-Int.is) low found)

pub loop-inner-preserved : goal.loop-inner-preserved
loop-inner-preserved c =
    let d = c.index-choices-second.result in
    let one = to_z-of_z w128 c.args.one c.ranges.one in
    let low : c.args.at.place + 1 + c.loop-inner.inner < length c.args.choices.now = omega (arith, c.loop-inner-test.true) in
    elim c.match-choices-second.branch [
      | in-Int+in_default-moved w ↦
          let fits : SFits w128 w.in-Int.other = search rules in
          let other = to_z-of_z w128 w.in-Int.other fits in
          let none : slice_get (moved_by c.args.together c.args.one w.in-Int.other) c.loop-inner.slot ≡ None =
          ap (λ v. slice_get (moved_by c.args.together v w.in-Int.other) c.loop-inner.slot) (sym one)
          ∙ ap (λ v. slice_get (moved_by c.args.together (to_z w128 (of_z w128 c.args.one)) v) c.loop-inner.slot) (sym other) ∙ sym w.moved.ensures ∙ w.in_default-moved.is in
          c.loop-inner.invariant
          ∙ pairs-over (moved_by c.args.together) c.args.choices.now c.args.at.place d c.requires.within c.loop-inner.inner c.loop-inner.slot c.args.one w.in-Int.other
          (c.requires.given d) (sym c.index-choices-second.is ∙ w.in-Int.is) low none
      | in_default w ↦
          c.loop-inner.invariant
          ∙ pairs-other (moved_by c.args.together) c.args.choices.now c.args.at.place d c.requires.within c.loop-inner.inner c.loop-inner.slot c.args.one
          (c.requires.given d) (λ value is. w.in_default.not-Int value (c.index-choices-second.is ∙ is)) low
    ]

pub returns : goal.returns
returns c =
    c.loop-inner.invariant
    ∙ pairs-past (moved_by c.args.together) c.args.choices.now c.args.at.place (choice.Int c.args.one) c.requires.within c.loop-inner.inner c.loop-inner.slot c.loop-inner-test.false
