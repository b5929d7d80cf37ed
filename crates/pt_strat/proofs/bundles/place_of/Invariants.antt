use Rattle.std.proofs.Common.{◌≡◌, ◌+◌, drop}
use Rattle.pt_strat.specs.Bundles.{place_of}
use Rattle.pt_strat.proofs.bundles.place_of.Given as goal

-- the bundles before bear other names
abbrev pub invariant-loop-bundle : goal.invariant-loop-bundle
invariant-loop-bundle l = (place_of l.name l.bundles ≡ l.place + place_of l.name (drop l.bundle-index l.bundles)) × (l.place ≡ l.bundle-index)
