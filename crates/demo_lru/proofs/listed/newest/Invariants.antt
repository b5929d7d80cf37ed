use Rattle.std.proofs.Common.{◌≡◌, ◌∷◌, take}
use Rattle.demo_lru.proofs.listed.newest.Given as goal

abbrev pub invariant-loop-pair : goal.invariant-loop-pair
invariant-loop-pair l = l.all ≡ (l.key, l.value) ∷ take l.pair-index l.pair-items
