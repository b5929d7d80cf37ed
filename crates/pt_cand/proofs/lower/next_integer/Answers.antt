use Rattle.std.proofs.Common.{◌≡◌, ◌+◌, ◌∷◌, sym, ◌∙◌, subst, to_z, of_z}
use Rattle.std.specs.Ordering.{int_eq}
use Rattle.std.proofs.lemmas.Int.{to_z-of_z}
use mir.Syntax.{w128}
use mir.Val.{SFits}
use Rattle.pt_cand.specs.Left.{once_after}
use Rattle.pt_cand.specs.Lower.{lower_integers}
use Rattle.pt_cand.proofs.LowerLemmas.{integer-new, integer-seen}
use Rattle.pt_cand.proofs.lower.next_integer.Goals as goal

pub returns-then-not-is_repeat : goal.returns-then-not-is_repeat
returns-then-not-is_repeat c =
    let value = to_z w128 (of_z w128 c.args.value) in
    let same : value ≡ c.args.value = to_z-of_z w128 c.args.value c.ranges.value in
    let fits : SFits w128 c.numbered.result = record { sfits = c.numbered.type_inv } in
    let low = to_z-of_z w128 c.numbered.result fits in
    let next = integer-new value c.args.looked c.loop-number.number c.numbered.result c.loop-number.invariant c.loop-number-test.true
    (sym c.is_repeat.ensures ∙ c.if-not-is_repeat.true) c.numbered.ensures in
    rw low (subst (λ v. once_after int_eq (v ∷ lower_integers v) c.args.looked ≡ c.numbered.result ∷ once_after int_eq (v ∷ lower_integers v) (c.loop-number.number + 1)) same next)

pub loop-number-preserved : goal.loop-number-preserved
loop-number-preserved c =
    integer-seen (to_z w128 (of_z w128 c.args.value)) c.args.looked c.loop-number.number c.loop-number.invariant c.loop-number-test.true
    (sym c.is_repeat.ensures ∙ c.if-not-is_repeat.false)
