use Rattle.std.proofs.Common.{◌≡◌, ◌++◌, take}
use Rattle.pt_eval.proofs.calling.join_bytes.Given as goal

-- the bytes so far are appended
abbrev pub invariant-loop-byte : goal.invariant-loop-byte
invariant-loop-byte l = l.bytes ≡ l.fn.bytes ++ take l.byte-index l.others
