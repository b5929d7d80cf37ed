use Rattle.std.proofs.Common.{◌≡◌, drop}
use Rattle.std.specs.Prelude.{◌==◌}
use Rattle.std.specs.Cmp.Lexicographic.{pointwise}
use Rattle.std.specs.List.{list_any}
use Rattle.pt_check.proofs.suites.is_known.Given as goal

-- none of the names so far is this one
abbrev pub invariant-loop-other : goal.invariant-loop-other
invariant-loop-other l = list_any (pointwise ◌==◌ l.name) l.known ≡ list_any (pointwise ◌==◌ l.name) (drop l.other-index l.known)
