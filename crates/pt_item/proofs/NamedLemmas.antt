-- Checks and their names.
use Rattle.std.proofs.Common.{◌≡◌, ℕ, zero, suc, ◌<◌, true, List, [], ◌∷◌, length, map, Some, refl, arith}
use Rattle.std.specs.Prelude.{◌==◌}
use Rattle.std.specs.Cmp.Lexicographic.{pointwise}
use Rattle.std.specs.List.{Contains, slice_get}
use Rattle.std.proofs.lemmas.Bool.Decides.{Decides-eqb}
use Rattle.std.proofs.lemmas.Slice.Eq.{slice_eq-Decides}

-- equal names are found equal
pub same-word : (one other : List ℕ) → one ≡ other → pointwise ◌==◌ one other ≡ true
same-word one other is = (slice_eq-Decides Decides-eqb one other (pointwise ◌==◌ one other) refl).1 is

-- where a name is among those of some checks, one of them has it
pub named-at : {C : Type 0} (name : C → List ℕ) (checks : List C) (wanted : List ℕ) → Contains (map name checks) wanted →
    (place : ℕ) × (check : C) × (place < length checks) × (slice_get checks place ≡ Some check) × (name check ≡ wanted)
named-at name [] wanted (k, within, is) = absurd (omega (arith, within))
named-at name (first ∷ rest) wanted (zero, within, is) = (0, first, omega arith, refl, is)
named-at name (first ∷ rest) wanted (suc k, within, is) =
    let later = named-at name rest wanted (k, omega (arith, within), is) in
    (suc later.0, later.1, omega (arith, later.2), later.3, later.4)
