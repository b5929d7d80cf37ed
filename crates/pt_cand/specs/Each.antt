-- What is made of each member of a list.
use Rattle.std.specs.Prelude.{Bool, if◌then◌else◌, List, [], ◌∷◌, ◌++◌}
use Rattle.std.specs.List.{list_any}

-- what is made of each member, with those before it and those behind it, in order
abbrev pub at_each : {A B : Type 0} → (List A → A → List A → List B) → List A → List A → List B
at_each make front [] = []
at_each make front (member ∷ back) = make front member back ++ at_each make (front ++ member ∷ []) back

-- the members in order, but for those that are the same as one of these or as an earlier member
abbrev pub each_once : {A : Type 0} → (A → A → Bool) → List A → List A → List A
each_once same seen [] = []
each_once same seen (member ∷ members) =
    if list_any (same member) seen then each_once same (seen ++ member ∷ []) members else member ∷ each_once same (seen ++ member ∷ []) members
