use Rattle.std.proofs.Common.{◌≡◌, drop}
use Rattle.std.specs.Map.{lookup}
use Rattle.std.specs.Ordering.{int_eq}
use Rattle.demo_lru.proofs.listed.value_of.Given as goal

-- what is looked for stands among the rest
abbrev pub invariant-loop-pair : goal.invariant-loop-pair
invariant-loop-pair l = lookup (int_eq l.key) (drop l.pair-index l.pairs) ≡ lookup (int_eq l.key) l.pairs
