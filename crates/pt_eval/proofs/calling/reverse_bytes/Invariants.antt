use Rattle.std.proofs.Common.{◌≡◌, map}
use Rattle.pt_eval.proofs.calling.reverse_bytes.Given as goal

-- the bytes so far are there
abbrev pub invariant-loop-byte : goal.invariant-loop-byte
invariant-loop-byte l = l.reversed ≡ map (λ byte. byte.now) l.yielded
