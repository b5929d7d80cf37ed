-- Names in scope with their values, the newest last.
use Rattle.std.specs.Prelude.{ℕ, ◌==◌, Option, List, [], ◌∷◌, ◌++◌, reverse, option_map, if◌then◌else◌}
use Rattle.std.specs.Cmp.Lexicographic.{pointwise}
use Rattle.std.specs.List.{find}
use Rattle.pt_val.specs.declared.val.Val.{Val}
use Rattle.pt_ast.specs.declared.binding.Binding.{Binding}

abbrev pub bound : List ℕ → Val → Binding
bound name val = record { name = name; val = val }

-- the newest value of the name
abbrev pub value_in : List ℕ → List Binding → Option Val
value_in name env = option_map (λ binding. binding.val) (find (λ binding. pointwise ◌==◌ name binding.name) (reverse env))

-- the first binding of the name with another value
abbrev pub first_changed : List ℕ → Val → List Binding → List Binding
first_changed name val [] = []
first_changed name val (binding ∷ others) =
    if pointwise ◌==◌ name binding.name then bound name val ∷ others else binding ∷ first_changed name val others

-- the newest binding of the name with another value
abbrev pub with_value : List ℕ → Val → List Binding → List Binding
with_value name val env = reverse (first_changed name val (reverse env))
