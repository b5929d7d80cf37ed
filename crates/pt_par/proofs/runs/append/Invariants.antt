use Rattle.std.proofs.Common.{◌≡◌, ◌++◌}
use Rattle.pt_par.proofs.runs.append.Given as goal

-- the records yielded so far stand after those that were there
abbrev pub invariant-loop-rec : goal.invariant-loop-rec
invariant-loop-rec l = l.records ≡ l.fn.records ++ l.yielded
