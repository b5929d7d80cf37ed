use Rattle.std.proofs.Common.{◌<◌, length}
use Rattle.tests_typing.proofs.types.nested.Given as goal

abbrev pub invariant-loop-level : goal.invariant-loop-level
invariant-loop-level l = l.number < length l.types
