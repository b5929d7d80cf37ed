use Rattle.std.proofs.Common.{◌≡◌, ◌<◌, ◌≤◌, ◌^◌, length}
use Rattle.pt_lex.specs.reading.Text.{code_on}
use Rattle.pt_lex.proofs.texts.read_digits.Given as goal

abbrev pub invariant-loop-char : goal.invariant-loop-char
invariant-loop-char l = (code_on l.count l.code l.rest ≡ code_on 0 0 l.text) × (l.count ≤ 6) × (l.code < 16 ^ l.count)

abbrev pub decreases-loop-char : goal.decreases-loop-char
decreases-loop-char l = length l.rest
