-- Which items can be examined.
use Rattle.std.specs.Prelude.{ℕ, List}
use Rattle.std.specs.List.{AllByRecursion}
use Rattle.pt_ast.specs.Bounds.{AreSettings}
use Rattle.pt_ast.specs.Trees.{ItemTree}
use Rattle.pt_item.specs.Item.{IsHandedIn}

-- the item's settings are in their ranges, and a check that it asks for is among those of these names
abbrev pub IsReady : List (List ℕ) → ItemTree → Type 0
IsReady known item = AreSettings item.settings × IsHandedIn known item

abbrev pub AreReady : List (List ℕ) → List ItemTree → Type 0
AreReady known items = AllByRecursion (IsReady known) items
