-- The tree of an item by its number.
use Rattle.std.proofs.Common.{◌≡◌, ℕ, zero, suc, ◌<◌, Some, List, [], ◌∷◌, length, get_or, map, sym, ap, arith}
use Rattle.std.specs.Prelude.{slice_get}

pub mapped-at : {A B : Type 0} (tree : A → B) (items : List A) (index : ℕ) (item : A) → index < length items → item ≡ get_or items index item →
    slice_get (map tree items) index ≡ Some (tree item)
mapped-at tree [] index item within is = absurd (omega (arith, within))
mapped-at tree (first ∷ others) zero item within is = ap (λ i. Some (tree i)) (sym is)
mapped-at tree (first ∷ others) (suc index) item within is = mapped-at tree others index item (omega (arith, within)) is
