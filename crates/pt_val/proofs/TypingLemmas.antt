-- A tuple has as many members as its type has types.
use Rattle.std.proofs.Common.{◌≡◌, ◌≢◌, true, false, ◌&&◌, List, [], ◌∷◌, length, map, refl, arith}
use Rattle.pt_val.specs.Typing.{has_type, are_of}
use Rattle.pt_val.specs.declared.val.Val.{Val}
use Rattle.pt_val.specs.declared.ty.Ty.{Ty}

pub are_of_unequal : (values : List Val) (types : List Ty) → length values ≢ length types → are_of (map has_type values) types ≡ false
are_of_unequal [] [] unequal = absurd (unequal refl)
are_of_unequal [] (type ∷ types) unequal = refl
are_of_unequal (value ∷ values) [] unequal = refl
are_of_unequal (value ∷ values) (type ∷ types) unequal =
    let rest = are_of_unequal values types (λ equal. unequal (omega arith)) in
    elim (has_type value type) as (λ first. (first && are_of (map has_type values) types) ≡ false) [ true ↦ rest | false ↦ refl ]
