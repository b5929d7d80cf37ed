use Rattle.std.proofs.Common.{◌≡◌, ◌+◌, ◌∷◌, drop, get_or, sym, ap, ◌∙◌, arith, refl}
use Rattle.std.proofs.lemmas.List.{drop_more}
use Rattle.pt_token.specs.declared.token.Mark.TheVariants as mark
use Rattle.pt_lex.specs.reading.Mark.{all_marks, mark_among}
use Rattle.pt_lex.proofs.Tables.{mark_here, mark_passed, mark_none}
use Rattle.pt_lex.proofs.marks.read_mark.Goals as goal

pub returns-in-Some : goal.returns-in-Some
returns-in-Some c =
    let i = c.loop-mark.mark-index in
    let text = c.args.text.now in
    let found = c.in-Some.ensures.cases in
    let all : drop i all_marks ≡ get_or all_marks i mark.OpenBrace ∷ drop (i + 1) all_marks = drop_more all_marks i mark.OpenBrace (omega arith) in
    sym (mark_here (get_or all_marks i mark.OpenBrace) (drop (i + 1) all_marks) c.mark_text.result.now text c.in-Some.rest.now c.mark_text.ensures found.0 found.1)
    ∙ ap (λ l. mark_among l text) (sym all) ∙ c.loop-mark.invariant.1

pub loop-mark-preserved : goal.loop-mark-preserved
loop-mark-preserved c =
    let i = c.loop-mark.mark-index in
    let text = c.args.text.now in
    let all : drop i all_marks ≡ get_or all_marks i mark.OpenBrace ∷ drop (i + 1) all_marks = drop_more all_marks i mark.OpenBrace (omega arith) in (
      refl,
      sym (mark_passed (get_or all_marks i mark.OpenBrace) (drop (i + 1) all_marks) c.mark_text.result.now text c.mark_text.ensures c.in_default.ensures.cases)
          ∙ ap (λ l. mark_among l text) (sym all) ∙ c.loop-mark.invariant.1,
    )

pub returns : goal.returns
returns c = sym (mark_none all_marks c.loop-mark.mark-index c.args.text.now (omega arith)) ∙ c.loop-mark.invariant.1
