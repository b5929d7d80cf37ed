use Rattle.std.proofs.Common.{◌≡◌, take}
use Rattle.pt_machine.proofs.stepping.chars_of.Given as goal

abbrev pub invariant-loop-byte : goal.invariant-loop-byte
invariant-loop-byte l = l.chars ≡ take l.byte-index l.name
