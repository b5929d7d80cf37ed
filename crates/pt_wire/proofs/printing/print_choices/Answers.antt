use Rattle.std.proofs.Common.{◌≡◌, ◌+◌, [], ◌∷◌, ◌++◌, length, get_or, take, string_bytes, sym, ap, subst, ◌∙◌, arith, add-one, append_assoc, length-take}
use Rattle.std.proofs.lemmas.List.{take_more}
use Rattle.std.proofs.lemmas.List.Elements.{All-tail}
use Rattle.pt_choice.specs.Limits.{IsInLimits}
use Rattle.pt_wire.specs.Printed.{PrintedChoice}
use Rattle.pt_wire.proofs.PrintedChoices.{printed_more}
use Rattle.pt_wire.proofs.printing.print_choices.Goals as goal

pub print_choice-requires-in-loop-choice : goal.print_choice-requires-in-loop-choice
print_choice-requires-in-loop-choice c =
    let whole = sym c.as_slice.ensures ∙ c.in-Some.ensures.cases.0 in
    let each = All-tail IsInLimits c.in-Some.first.now c.in-Some.others.now (rw whole at c.requires.each) in
    subst IsInLimits (sym c.choice-item.is) (each c.loop-choice.choice-index c.choice-item.result (omega arith))

pub loop-choice-init : goal.loop-choice-init
loop-choice-init c =
    let whole = sym c.as_slice.ensures ∙ c.in-Some.ensures.cases.0 in
    let written = c.in_ok-print_choice.ensures in
    rw whole (subst (PrintedChoice c.in-Some.first.now) (sym (written.2 ∙ ap (λ t. t ++ written.0) c.new-out.ensures.bytes)) written.1)

pub loop-choice-preserved : goal.loop-choice-preserved
loop-choice-preserved c =
    let k = c.loop-choice.choice-index in
    let list = c.args.list.now in
    let item = c.choice-item.result in
    let whole = sym c.as_slice.ensures ∙ c.in-Some.ensures.cases.0 in
    let longer = ap length whole in
    let written = c.in_ok-print_choice-2.ensures in
    let is : get_or list (k + 1) item ≡ item = rw (whole, add-one k) (sym c.choice-item.is) in
    let space = c.in_ok-push.ensures.bytes ∙ ap (λ t. string_bytes c.loop-choice.out ++ t) (c.in_ok-push.ensures.ascii (omega arith)) in
    let text = written.2 ∙ ap (λ t. t ++ written.0) space ∙ append_assoc (string_bytes c.loop-choice.out) (32 ∷ []) written.0 in
    rw (take_more list (k + 1) item (omega arith), is, text)
    (printed_more (take (k + 1) list) item (string_bytes c.loop-choice.out) written.0 (omega (arith, length-take (k + 1) list)) c.loop-choice.invariant written.1)
