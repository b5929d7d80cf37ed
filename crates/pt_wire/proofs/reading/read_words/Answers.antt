use Rattle.std.proofs.Common.{[], ◌∷◌, ◌++◌, sym, ap, subst, ◌∙◌}
use Rattle.pt_wire.specs.Printed.{PrintedChoice}
use Rattle.pt_wire.specs.Spelling.{Joined}
use Rattle.pt_wire.proofs.Answers.{reads_gathered}
use Rattle.pt_wire.proofs.Chains.{fails_anyway}
use Rattle.pt_wire.proofs.JoinedTexts.{joined_end, marked_cut, fails_cut}
use Rattle.pt_wire.proofs.PrintedChoices.{choices_markable}
use Rattle.pt_wire.proofs.reading.read_words.Goals as goal

pub returns-in-Err-At : goal.returns-in-Err-At
returns-in-Err-At c =
    let i = c.loop-choice.invariant in
    let inside = rw c.in-Err-At.field-0-is at c.in-Err-At.ensures.err in
    rw c.in-Err-At.field-0-is
    (fails_anyway (Joined PrintedChoice 32) c.args.text.now _
    (fails_cut PrintedChoice 32 choices_markable (λ _. Unit {0}) i.0 i.1 c.loop-choice.rest.now c.args.text.now c.cut.result.0.now c.cut.result.1 c.in-Err-At.place (λ _. tt) i.2 i.4 c.cut.ensures inside))

pub loop-choice-preserved : goal.loop-choice-preserved
loop-choice-preserved c =
    let i = c.loop-choice.invariant in
    let cut = (rw c.in-Some.is at c.cut.ensures).1 in
    let next = marked_cut PrintedChoice 32 choices_markable i.0 i.1 c.loop-choice.rest.now c.args.text.now c.cut.result.0.now c.in-Some.others.now c.in-Ok.choice i.2 i.4 cut c.in-Ok.ensures.ok in
    (i.0 ++ c.in-Ok.choice ∷ [], next.0, next.1, c.in_ok-gather-in-Ok.ensures i.0 i.3, next.2)

pub returns-in-None : goal.returns-in-None
returns-in-None c =
    let i = c.loop-choice.invariant in
    let ended = (rw c.in-None.is at c.cut.ensures).1 in
    let all = i.0 ++ c.in-Ok.choice ∷ [] in
    let whole = i.4 ∙ ap (λ t. i.1 ++ t) ended in
    let joined = subst (Joined PrintedChoice 32 all) (sym whole) (joined_end PrintedChoice 32 i.0 c.in-Ok.choice i.1 c.cut.result.0.now i.2 c.in-Ok.ensures.ok) in
    reads_gathered (Joined PrintedChoice 32) c.args.text.now all c.into_list.result joined (c.into_list.ensures all (c.in_ok-gather-in-Ok.ensures i.0 i.3))
