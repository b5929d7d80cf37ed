use Rattle.std.proofs.Common.{◌≡◌, ◌-◌, ◌≤◌, vec_len}
use Rattle.pt_real.specs.Asked.{Opened, and_did}
use Rattle.pt_real.proofs.transfer.read_first.Given as goal

-- no more was read than was asked for, and it is what the file gave
abbrev pub invariant-loop-piece : goal.invariant-loop-piece
invariant-loop-piece g l =
    let asked = g.S.FileSystem.asked in
    record {
      within : vec_len l.bytes ≤ l.cap;
      given : asked l.system ≡ and_did (Opened l.path l.bytes.items) (asked l.fn.system);
    }

abbrev pub decreases-loop-piece : goal.decreases-loop-piece
decreases-loop-piece g l = l.cap - vec_len l.bytes
