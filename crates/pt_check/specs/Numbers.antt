-- What numbers of types stand for.
use Rattle.std.specs.Prelude.{ℕ, ◌<◌, Option, List, map, option_map, length}
use Rattle.std.specs.List.{AllByRecursion}
use Rattle.std.specs.Option.{option_to_list}
use Rattle.pt_ast.specs.Types.{TypeTree}
use Rattle.pt_ast.specs.Names.{Scope}
use Rattle.pt_types.specs.declared.shape.Shape.{Shape}
use Rattle.pt_types.specs.Kept.{type_of, Grows, base_shapes}
use Rattle.pt_check.specs.Known.{Known}

-- names with the numbers of their types
abbrev pub Table : Type 0
Table = List (List ℕ × ℕ)

abbrev pub scope_of : List Shape → Table → Scope
scope_of shapes names = map (λ named. (named.0, type_of shapes named.1)) names

abbrev pub types_at : List Shape → List ℕ → List TypeTree
types_at shapes numbers = map (type_of shapes) numbers

-- they are numbers of types that are kept
abbrev pub AreNumbers : List Shape → List ℕ → Type 0
AreNumbers shapes numbers = AllByRecursion (λ number. number < length shapes) numbers

abbrev pub AreNumbered : List Shape → Table → Type 0
AreNumbered shapes names = AllByRecursion (λ named. named.1 < length shapes) names

-- what a checker of these parts knows
abbrev pub known_of : List Shape → Table → Table → Option ℕ → Table → List ℕ → List ℕ → Known
known_of shapes states bundles target scope selves held = record {
  context = record { states = scope_of shapes states; bundles = scope_of shapes bundles; target = option_map (type_of shapes) target };
  scope = scope_of shapes scope;
  selves = types_at shapes selves;
  held = types_at shapes held;
}

-- all numbers in a checker are those of types that it keeps
pub record AreKnown (shapes : List Shape) (states bundles : Table) (target : Option ℕ) (scope : Table) (selves held : List ℕ) : Type 0 where
  pub from_base : Grows base_shapes shapes
  pub of_states : AreNumbered shapes states
  pub of_bundles : AreNumbered shapes bundles
  pub of_target : AreNumbers shapes (option_to_list target)
  pub of_scope : AreNumbered shapes scope
  pub of_selves : AreNumbers shapes selves
  pub of_held : AreNumbers shapes held
