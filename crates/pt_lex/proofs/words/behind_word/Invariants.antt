use Rattle.std.proofs.Common.{◌≡◌, ◌≤◌, length}
use Rattle.pt_lex.specs.reading.Word.{behind_word}
use Rattle.pt_lex.proofs.words.behind_word.Given as goal

abbrev pub invariant-loop-char : goal.invariant-loop-char
invariant-loop-char l = (behind_word l.rest ≡ behind_word l.text) × (length l.rest ≤ length l.text)

abbrev pub decreases-loop-char : goal.decreases-loop-char
decreases-loop-char l = length l.rest
