use Rattle.std.proofs.Common.{◌≡◌, ◌++◌, take}
use Rattle.pt_shrink.proofs.asked.extend.Given as goal

abbrev pub invariant-loop-choice : goal.invariant-loop-choice
invariant-loop-choice l = l.list ≡ l.fn.list ++ take l.choice-index l.more
