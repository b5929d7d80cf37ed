use Rattle.std.proofs.Common.{◌≡◌, length}
use Rattle.pt_lex.specs.reading.Number.{digits_on}
use Rattle.pt_lex.proofs.numbers.read_digits.Given as goal

abbrev pub invariant-loop-digit : goal.invariant-loop-digit
invariant-loop-digit l = digits_on l.kept l.rest ≡ digits_on 0 l.text

abbrev pub decreases-loop-digit : goal.decreases-loop-digit
decreases-loop-digit l = length l.rest
