use Rattle.std.proofs.Common.{◌≡◌}
use Rattle.pt_real.proofs.command_line.after_the_name.Given as goal

-- the words so far are kept
abbrev pub invariant-loop-word : goal.invariant-loop-word
invariant-loop-word l = l.words.items ≡ l.yielded
