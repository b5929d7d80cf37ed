use Rattle.std.proofs.Common.{◌≡◌, ◌++◌, take}
use Rattle.pt_eval.proofs.calling.join_chars.Given as goal

-- the characters so far are appended
abbrev pub invariant-loop-char : goal.invariant-loop-char
invariant-loop-char l = l.chars ≡ l.fn.chars ++ take l.char-index l.others
