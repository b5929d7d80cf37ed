-- What is known of a suite before it is run, and of each of its items.
use Rattle.std.specs.Prelude.{ℕ, ◌<◌, List}
use Rattle.std.specs.List.{AllByRecursion}
use Rattle.pt_ast.specs.Trees.{ItemTree, SuiteTree}
use Rattle.pt_ast.specs.Bounds.{IsBounded, IsBoundedItem}
use Rattle.pt_ast.specs.Numbers.{IsNumbered, body_numbers}
use Rattle.pt_ast.specs.Suites.{IsTyped, IsTypedItem}

-- the suite keeps the bounds, is numbered, and is well typed where checks of these names are handed in
pub record IsSound (known : List (List ℕ)) (suite : SuiteTree) : Type 0 where
  pub bounded : IsBounded suite
  pub numbered : IsNumbered suite
  pub typed : IsTyped known suite

-- all of the numbers are small enough for the labels of spans
abbrev pub AreSmall : List ℕ → Type 0
AreSmall numbers = AllByRecursion (λ num. num < 1048576) numbers

-- so is an item, as far as it can be said of it alone
pub record IsSoundItem (known : List (List ℕ)) (item : ItemTree) : Type 0 where
  pub bounded : IsBoundedItem item
  pub small : AreSmall (body_numbers item.body)
  pub typed : IsTypedItem known item
