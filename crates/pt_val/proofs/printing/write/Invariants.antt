use Rattle.std.proofs.Common.{◌≡◌, ◌++◌, take}
use Rattle.pt_val.proofs.printing.write.Given as goal

-- the bytes so far are written
abbrev pub invariant-loop-byte : goal.invariant-loop-byte
invariant-loop-byte l = l.text ≡ l.initial.text ++ take l.byte-index l.bytes
