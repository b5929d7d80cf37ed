use Rattle.std.proofs.Common.{◌≡◌, ℕ, ◌<◌, Some}
use Rattle.std.specs.List.{slice_get}
use Rattle.pt_item.proofs.named.check_named.Given as goal

-- none of the checks so far has the name
abbrev pub invariant-loop-check : goal.invariant-loop-check
invariant-loop-check g l = (place : ℕ) (check : _) → place < l.check-index → slice_get l.checks place ≡ Some check → g.C.Check.name check ≡ l.name → ⊥
