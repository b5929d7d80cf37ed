use Rattle.std.proofs.Common.{◌≡◌, take}
use Rattle.pt_lex.proofs.words.name_of.Given as goal

-- the characters so far
abbrev pub invariant-loop-char : goal.invariant-loop-char
invariant-loop-char l = l.bytes ≡ take l.char-index l.text
