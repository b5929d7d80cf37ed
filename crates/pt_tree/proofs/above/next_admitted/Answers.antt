use Rattle.std.proofs.Common.{◌≡◌, sym, ◌∙◌, subst, rules, Some, None, true}
use mir.Syntax.{w128}
use mir.Val.{SFits}
use Rattle.std.proofs.lemmas.Int.{to_z-of_z}
use Rattle.pt_choice.specs.Kind.{admits}
use Rattle.pt_choice.specs.declared.kind.Shape.TheVariants as shape
use Rattle.pt_choice.specs.declared.choice.Choice.TheVariants as choice
use Rattle.pt_tree.specs.Above.{IsLeastAbove, IsNextAdmitted, IsNextInteger}
use Rattle.pt_tree.proofs.AnswerLemmas.{integer-follows, integer-last, bytes-follow, bytes-last, text-follows, text-last, true-follows, true-last}
use Rattle.pt_tree.proofs.above.next_admitted.Goals as goal

pub returns-in-Some : goal.returns-in-Some
returns-in-Some c =
    let lo : SFits w128 c.in-Int-Int.lo = search rules in
    let hi : SFits w128 c.in-Int-Int.hi = search rules in
    let value : SFits w128 c.in-Int-Int.value = search rules in
    let fits : SFits w128 c.in-Some.next = search rules in
    let next : IsNextInteger c.in-Int-Int.lo c.in-Int-Int.hi c.in-Int-Int.value (Some c.in-Some.next) = simp to_z-of_z at c.in-Some.ensures in
    let kind = sym (sym c.in-Int-Int.is-0 ∙ c.shape.ensures.same) in
    rw (kind, c.in-Int-Int.is-1, to_z-of_z w128 c.in-Some.next fits) (integer-follows c.in-Int-Int.lo c.in-Int-Int.hi c.in-Int-Int.value c.in-Some.next next)

pub returns-in-None : goal.returns-in-None
returns-in-None c =
    let lo : SFits w128 c.in-Int-Int.lo = search rules in
    let hi : SFits w128 c.in-Int-Int.hi = search rules in
    let value : SFits w128 c.in-Int-Int.value = search rules in
    let none : IsNextInteger c.in-Int-Int.lo c.in-Int-Int.hi c.in-Int-Int.value None = simp to_z-of_z at c.in-None.ensures in
    let kind = sym (sym c.in-Int-Int.is-0 ∙ c.shape.ensures.same) in
    rw (kind, c.in-Int-Int.is-1) (integer-last c.in-Int-Int.lo c.in-Int-Int.hi c.in-Int-Int.value none)

pub returns-in-Some-3 : goal.returns-in-Some-3
returns-in-Some-3 c =
    let kind = sym (sym c.in-Text-Text.is-0 ∙ c.shape.ensures.same) in
    let admitted : admits (shape.Text c.in-Text-Text.min-0 c.in-Text-Text.max c.in-Text-Text.size) (choice.Text c.in-Text-Text.places) ≡ true =
    rw (kind, c.in-Text-Text.is-1) at c.requires in
    let next = rw c.in-Some-3.is at c.in_ok-next-in-Text-Text.ensures.next in
    rw (kind, c.in-Text-Text.is-1) (text-follows c.in-Text-Text.min-0 c.in-Text-Text.max c.in-Text-Text.size c.in-Text-Text.places c.in-Some-3.next admitted next)

pub returns-in-None-3 : goal.returns-in-None-3
returns-in-None-3 c =
    let kind = sym (sym c.in-Text-Text.is-0 ∙ c.shape.ensures.same) in
    let none = rw c.in-None-3.is at c.in_ok-next-in-Text-Text.ensures.next in
    rw (kind, c.in-Text-Text.is-1) (text-last c.in-Text-Text.min-0 c.in-Text-Text.max c.in-Text-Text.size c.in-Text-Text.places none)
