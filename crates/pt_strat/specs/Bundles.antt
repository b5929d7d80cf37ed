-- The entries of a machine's bundles.
use Rattle.std.specs.Prelude.{ℕ, suc, ◌==◌, Option, Some, None, List, [], ◌∷◌, ◌++◌, if◌then◌else◌}
use Rattle.std.specs.Cmp.Lexicographic.{pointwise}
use Rattle.pt_val.specs.declared.val.Val.{Val}
use Rattle.pt_ast.specs.declared.ident.Ident.{Ident}
use Rattle.pt_strat.specs.declared.bundles.Bundle.{Bundle}

-- the entries of the bundle of this name, the oldest first
abbrev pub entries_of : List ℕ → List Bundle → List Val
entries_of name [] = []
entries_of name (bundle ∷ others) = if pointwise ◌==◌ name bundle.name then bundle.entries else entries_of name others

-- the number of the first bundle of this name, and how many there are where there is none
abbrev pub place_of : List ℕ → List Bundle → ℕ
place_of name [] = 0
place_of name (bundle ∷ others) = if pointwise ◌==◌ name bundle.name then 0 else suc (place_of name others)

-- the bundle with one more entry
abbrev pub with_entry : Val → Bundle → Bundle
with_entry value bundle = record { name = bundle.name; entries = bundle.entries ++ value ∷ [] }

-- the bundles after the value was put into the one of this name
abbrev pub given_to : List ℕ → Val → List Bundle → List Bundle
given_to name value [] = []
given_to name value (bundle ∷ others) =
    if pointwise ◌==◌ name bundle.name then with_entry value bundle ∷ others
    else bundle ∷ given_to name value others

-- the bundles after a rule gave the value, which gives into this one if into any
abbrev pub given_into : Option Ident → Val → List Bundle → List Bundle
given_into None value bundles = bundles
given_into (Some bundle) value bundles = given_to bundle.name value bundles
