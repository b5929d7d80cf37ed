use Rattle.std.proofs.Common.{◌≡◌}
use Rattle.pt_lex.proofs.characters.decode.Given as goal

-- the characters so far
abbrev pub invariant-loop-char : goal.invariant-loop-char
invariant-loop-char l = l.chars ≡ l.yielded
