use Rattle.std.proofs.Common.{◌≡◌, take, map}
use Rattle.pt_real.proofs.listing.in_order.Given as goal

-- the names so far
abbrev pub invariant-loop-name : goal.invariant-loop-name
invariant-loop-name l = l.found ≡ map (λ one. one.now) (take l.name-index l.name-items)
