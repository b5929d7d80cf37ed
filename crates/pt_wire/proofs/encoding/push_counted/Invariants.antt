use Rattle.std.proofs.Common.{◌≡◌, ◌∷◌, ◌++◌, length, take}
use Rattle.pt_wire.proofs.encoding.push_counted.Given as goal

-- the count and the bytes so far are written
abbrev pub invariant-loop-byte : goal.invariant-loop-byte
invariant-loop-byte l = l.out ≡ l.fn.out ++ length l.bytes ∷ take l.byte-index l.bytes
