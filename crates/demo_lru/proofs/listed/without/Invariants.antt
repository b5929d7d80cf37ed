use Rattle.std.proofs.Common.{◌≡◌, take}
use Rattle.demo_lru.specs.Listed.{without}
use Rattle.demo_lru.proofs.listed.without.Given as goal

abbrev pub invariant-loop-pair : goal.invariant-loop-pair
invariant-loop-pair l = l.others ≡ without l.key (take l.pair-index l.pairs)
