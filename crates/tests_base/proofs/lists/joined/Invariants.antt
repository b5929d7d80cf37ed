use Rattle.std.proofs.Common.{◌≡◌, ◌++◌}
use Rattle.tests_base.proofs.lists.joined.Given as goal

-- the items so far stand behind those of the first list
abbrev pub invariant-loop-number : goal.invariant-loop-number
invariant-loop-number l = l.first ≡ l.fn.first ++ l.yielded
