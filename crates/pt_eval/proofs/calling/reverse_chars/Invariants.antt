use Rattle.std.proofs.Common.{◌≡◌, map}
use Rattle.pt_eval.proofs.calling.reverse_chars.Given as goal

-- the characters so far are there
abbrev pub invariant-loop-char : goal.invariant-loop-char
invariant-loop-char l = l.reversed ≡ map (λ char. char.now) l.yielded
