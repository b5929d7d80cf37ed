-- Which items can be examined.
use Rattle.std.proofs.Common.{◌≡◌, ℕ, zero, suc, ◌<◌, List, [], ◌∷◌, length, map, get_or, sym, subst, arith}
use Rattle.std.specs.List.{AllByRecursion}
use Rattle.pt_ast.specs.declared.suite.Item.{Item}
use Rattle.pt_ast.specs.Bounds.{IsBoundedItem}
use Rattle.pt_ast.specs.Plain.{plain_item}
use Rattle.pt_ast.specs.Trees.{ItemTree}
use Rattle.pt_item.specs.Item.{IsHandedIn}
use Rattle.pt_turns.specs.Ready.{IsReady, AreReady}

pub all-ready : (known : List (List ℕ)) (items : List ItemTree) → AllByRecursion IsBoundedItem items → AllByRecursion (IsHandedIn known) items →
    AreReady known items
all-ready known [] bounded handed = tt
all-ready known (item ∷ items) bounded handed = ((bounded.0.0, handed.0), all-ready known items bounded.1 handed.1)

ready-at : (known : List (List ℕ)) (items : List Item) (i : ℕ) (default : Item) → i < length items → AreReady known (map plain_item items) →
    IsReady known (plain_item (get_or items i default))
ready-at known [] i default within ready = absurd (omega (arith, within))
ready-at known (item ∷ items) zero default within ready = ready.0
ready-at known (item ∷ items) (suc i) default within ready = ready-at known items i default (omega (arith, within)) ready.1

-- the item at a place is ready
pub item-ready : (known : List (List ℕ)) (items : List Item) (i : ℕ) (item : Item) → i < length items → item ≡ get_or items i item →
    AreReady known (map plain_item items) → IsReady known (plain_item item)
item-ready known items i item within at ready =
    let P : Item → Type 0 = λ other. IsReady known (plain_item other) in subst P (sym at) (ready-at known items i item within ready)
