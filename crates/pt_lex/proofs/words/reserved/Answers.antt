use Rattle.std.proofs.Common.{◌≡◌, ◌+◌, ◌∷◌, drop, get_or, sym, ap, ◌∙◌, arith, refl}
use Rattle.std.proofs.lemmas.List.{drop_more}
use Rattle.pt_token.specs.declared.token.Word.TheVariants as word
use Rattle.pt_lex.specs.reading.Word.{all_words, word_among}
use Rattle.pt_lex.proofs.Tables.{word_here, word_passed, word_none}
use Rattle.pt_lex.proofs.words.reserved.Goals as goal

pub returns-then-is_same : goal.returns-then-is_same
returns-then-is_same c =
    let i = c.loop-word.word-index in
    let text = c.args.text.now in
    let all : drop i all_words ≡ get_or all_words i word.Property ∷ drop (i + 1) all_words = drop_more all_words i word.Property (omega arith) in
    sym (word_here (get_or all_words i word.Property) (drop (i + 1) all_words) c.word_text.result.now text c.word_text.ensures (sym c.is_same.ensures ∙ c.if-is_same.true))
    ∙ ap (λ l. word_among l text) (sym all) ∙ c.loop-word.invariant.1

pub loop-word-preserved : goal.loop-word-preserved
loop-word-preserved c =
    let i = c.loop-word.word-index in
    let text = c.args.text.now in
    let all : drop i all_words ≡ get_or all_words i word.Property ∷ drop (i + 1) all_words = drop_more all_words i word.Property (omega arith) in (
      refl,
      sym (word_passed (get_or all_words i word.Property) (drop (i + 1) all_words) c.word_text.result.now text c.word_text.ensures (sym c.is_same.ensures ∙ c.if-is_same.false))
          ∙ ap (λ l. word_among l text) (sym all) ∙ c.loop-word.invariant.1,
    )

pub returns : goal.returns
returns c = sym (word_none all_words c.loop-word.word-index c.args.text.now (omega arith)) ∙ c.loop-word.invariant.1
