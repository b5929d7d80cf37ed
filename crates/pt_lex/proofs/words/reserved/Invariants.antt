use Rattle.std.proofs.Common.{◌≡◌, drop}
use Rattle.pt_lex.specs.reading.Word.{all_words, word_among}
use Rattle.pt_lex.proofs.words.reserved.Given as goal

abbrev pub invariant-loop-word : goal.invariant-loop-word
invariant-loop-word l = (l.word-items ≡ all_words) × (word_among (drop l.word-index l.word-items) l.text ≡ word_among all_words l.text)
