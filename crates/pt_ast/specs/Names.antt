-- Names in scope with their types.
use Rattle.std.specs.Prelude.{◌≡◌, ℕ, ◌==◌, Option, None, List, [], ◌∷◌, ◌++◌}
use Rattle.std.specs.Cmp.Lexicographic.{pointwise}
use Rattle.std.specs.List.{IsDistinct}
use Rattle.std_collections.specs.Map.{lookup}
use Rattle.pt_ast.specs.declared.ident.Ident.{Ident}
use Rattle.pt_ast.specs.Types.{TypeTree}

-- names with their types, the newest last
abbrev pub Scope : Type 0
Scope = List (List ℕ × TypeTree)

-- the type of the name
abbrev pub type_in : List ℕ → Scope → Option TypeTree
type_in name scope = lookup (pointwise ◌==◌ name) scope

abbrev pub IsFree : Scope → Ident → Type 0
IsFree scope given = type_in given.name scope ≡ None

-- the scope, and one more name
abbrev pub with_name : Scope → Ident → TypeTree → Scope
with_name scope given type = scope ++ (given.name, type) ∷ []

-- no name stands there twice
abbrev pub AreDistinct : List (List ℕ) → Type 0
AreDistinct names = IsDistinct (pointwise ◌==◌) names
