use Rattle.std.proofs.Common.{◌≡◌, take, map}
use Rattle.pt_real.proofs.listing.sorted.Given as goal

-- the names so far, as they came
abbrev pub invariant-loop-name : goal.invariant-loop-name
invariant-loop-name l = map (λ one. one.now) l.sorted.items ≡ take l.name-index l.names
