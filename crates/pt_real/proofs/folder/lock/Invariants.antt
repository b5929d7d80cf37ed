use Rattle.std.proofs.Common.{◌≡◌}
use Rattle.pt_real.proofs.folder.lock.Given as goal

-- the lock was not to be had, and nothing was done
abbrev pub invariant-loop : goal.invariant-loop
invariant-loop g l =
    let asked = g.S.FileSystem.asked in
    asked l.system ≡ asked l.fn.system
