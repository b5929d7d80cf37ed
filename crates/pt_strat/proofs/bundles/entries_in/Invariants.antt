use Rattle.std.proofs.Common.{◌≡◌, drop}
use Rattle.pt_strat.specs.Bundles.{entries_of}
use Rattle.pt_strat.proofs.bundles.entries_in.Given as goal

-- the bundles before bear other names
abbrev pub invariant-loop-bundle : goal.invariant-loop-bundle
invariant-loop-bundle l = entries_of l.name l.bundles ≡ entries_of l.name (drop l.bundle-index l.bundles)
