use Rattle.std.proofs.Common.{◌≡◌, ℕ, ◌<◌, Some}
use Rattle.std.specs.Prelude.{◌≢◌, slice_get}
use Rattle.pt_ast.specs.declared.suite.Item.{Item}
use Rattle.pt_run.proofs.showing.named.Given as goal

-- none of the items so far has the name
abbrev pub invariant-loop-item : goal.invariant-loop-item
invariant-loop-item l = (place : ℕ) (item : Item) → place < l.item-index → slice_get l.items place ≡ Some item → item.name.name ≢ l.wanted
