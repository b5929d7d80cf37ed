use Rattle.std.proofs.Common.{◌≡◌, ◌++◌, take}
use Rattle.std.specs.List.{flat_map}
use Rattle.pt_val.specs.Text.{char_text}
use Rattle.pt_val.proofs.printing.write_chars.Given as goal

-- the characters so far are written
abbrev pub invariant-loop-char : goal.invariant-loop-char
invariant-loop-char l = l.text ≡ l.initial.text ++ flat_map char_text (take l.char-index l.chars)
