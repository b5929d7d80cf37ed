use Rattle.std.proofs.Common.{◌≡◌, ◌-◌, ◌≤◌, take, length}
use Rattle.pt_real.specs.Asked.{Created, and_did}
use Rattle.pt_real.proofs.transfer.write_whole.Given as goal

-- the file took the first bytes, and no others
abbrev pub invariant-loop-done : goal.invariant-loop-done
invariant-loop-done g l =
    let asked = g.S.FileSystem.asked in
    record {
      within : l.done ≤ length l.bytes;
      taken : asked l.system ≡ and_did (Created l.path (take l.done l.bytes)) (asked l.fn.system);
    }

abbrev pub decreases-loop-done : goal.decreases-loop-done
decreases-loop-done g l = length l.bytes - l.done
