use Rattle.std.proofs.Common.{◌≡◌, true, subst, sym}
use Rattle.pt_lex.specs.Words.{is_word}
use Rattle.pt_lex.specs.reading.Word.{before}
use Rattle.pt_lex.proofs.WordLaws.{short_word, word_formed}
use Rattle.pt_lex.proofs.words.read_word.Goals as goal

pub name_of-requires : goal.name_of-requires
name_of-requires c =
    let text = c.args.text.now in
    short_word (before c.behind_word-rest.result.now text)
    (subst (λ r. is_word (before r text) ≡ true) (sym c.behind_word-rest.ensures.rest) (word_formed text c.requires)) c.if-word-gt-MOST_CHARS.false
