use Rattle.std.proofs.Common.{◌≡◌, length}
use Rattle.pt_lex.specs.reading.Word.{same_text}
use Rattle.pt_lex.proofs.words.is_same.Given as goal

abbrev pub invariant-loop-char : goal.invariant-loop-char
invariant-loop-char l = same_text l.chars l.rest ≡ same_text l.text l.bytes

abbrev pub decreases-loop-char : goal.decreases-loop-char
decreases-loop-char l = length l.chars
