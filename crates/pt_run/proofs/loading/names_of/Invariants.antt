use Rattle.std.proofs.Common.{◌≡◌, map, take}
use Rattle.pt_run.proofs.loading.names_of.Given as goal

-- the names so far
abbrev pub invariant-loop-check : goal.invariant-loop-check
invariant-loop-check g l = l.names ≡ map g.C.Check.name (take l.check-index l.checks)
