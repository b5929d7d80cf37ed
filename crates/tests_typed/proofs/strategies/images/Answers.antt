use Rattle.std.proofs.Common.{pos}
use Rattle.pt_typed.proofs.ReadingLemmas.{between-tested}
use Rattle.tests_typed.proofs.strategies.images.Goals as goal

pub of-requires-2 : goal.of-requires-2
of-requires-2 g c = λ value is. between-tested (pos 0) (pos 9) value (rw (c.of.ensures.lo, c.of.ensures.hi) at is)
