use Rattle.std.proofs.Common.{◌<◌, ◌%◌, length}
use Rattle.std.specs.Prelude.{vec_len}
use Rattle.pt_par.specs.Least.{Covers}
use Rattle.pt_par.proofs.search.least.Given as goal

-- the places of the shares so far are covered
abbrev pub invariant-loop-hit : goal.invariant-loop-hit
invariant-loop-hit g l = Covers (g.C.Check.step l.check) l.best l.lists (λ place. place % vec_len l.fn.shares < length l.yielded) l.least
