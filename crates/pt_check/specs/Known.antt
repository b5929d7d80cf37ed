-- What is known at a place of a suite.
use Rattle.std.specs.Prelude.{ℕ, zero, suc, Option, List, [], ◌∷◌}
use Rattle.pt_ast.specs.declared.ident.Ident.{Ident}
use Rattle.pt_ast.specs.declared.expr.Func.{Func}
use Rattle.pt_ast.specs.declared.expr.Func.TheVariants.{Has, Node}
use Rattle.pt_ast.specs.Types.{TypeTree, Int_type, Bool_type, Tree_type, Tuple_type, TypeTrees, no_type, more_type}
use Rattle.pt_ast.specs.Names.{Scope, with_name}
use Rattle.pt_ast.specs.Suites.{Context, no_context}
use Rattle.pt_types.specs.Kept.{types_under}
use Rattle.pt_check.specs.Stacks.{newest, behind}

pub record Known : Type 0 where
  pub context : Context  -- what the statements of a rule see of their machine
  pub scope : Scope  -- the names in scope with their types
  pub selves : List TypeTree  -- what `self` stands for, the innermost first
  pub held : List TypeTree  -- the types that were found and are still needed, the newest first

-- before the first item
abbrev pub nothing : Known
nothing = record { context = no_context; scope = []; selves = []; held = [] }

abbrev pub with_held : Known → List TypeTree → Known
with_held known held = record { context = known.context; scope = known.scope; selves = known.selves; held = held }

abbrev pub with_scope : Known → Scope → Known
with_scope known scope = record { context = known.context; scope = scope; selves = known.selves; held = known.held }

abbrev pub with_selves : Known → List TypeTree → Known
with_selves known selves = record { context = known.context; scope = known.scope; selves = selves; held = known.held }

abbrev pub with_context : Known → Context → Known
with_context known context = record { context = context; scope = known.scope; selves = known.selves; held = known.held }

-- the newest type that is held
abbrev pub top : Known → TypeTree
top known = newest Int_type known.held

-- one more type is held
abbrev pub holding : Known → TypeTree → Known
holding known type = with_held known (type ∷ known.held)

-- the newest type is held no more
abbrev pub released : Known → Known
released known = with_held known (behind known.held)

-- another type is held in its place
abbrev pub replaced : Known → TypeTree → Known
replaced known type = holding (released known) type

-- it is the type of one more name
abbrev pub binding : Known → Ident → Known
binding known given = with_scope (released known) (with_name known.scope given (top known))

-- the types of a tuple's parts, of which so many are held and the others are given
abbrev pub parts_held : ℕ → List TypeTree → TypeTrees → TypeTrees
parts_held zero held types = types
parts_held (suc count) held types = parts_held count (behind held) (more_type (newest Int_type held) types)

-- those that are older than the newest so many
abbrev pub below : ℕ → List TypeTree → List TypeTree
below zero held = held
below (suc count) held = below count (behind held)

-- the type of a tuple of so many parts is held in place of theirs
abbrev pub gathered : ℕ → Known → Known
gathered count known = with_held known (Tuple_type (parts_held count known.held no_type) ∷ below count known.held)

abbrev pub with_target : Known → Option TypeTree → Known
with_target known target = with_context known (record { states = known.context.states; bundles = known.context.bundles; target = target })

abbrev pub with_states : Known → Scope → Known
with_states known states = with_context known (record { states = states; bundles = known.context.bundles; target = known.context.target })

abbrev pub with_bundles : Known → Scope → Known
with_bundles known bundles = with_context known (record { states = known.context.states; bundles = bundles; target = known.context.target })

-- the type before a tuple's is that of its first part
abbrev pub joined : Known → Known
joined known =
    with_held known (Tuple_type (more_type (newest Int_type (behind known.held)) (types_under (newest Int_type known.held))) ∷ behind (behind known.held))

-- what a function gives for two values is held in place of the type of the second
abbrev pub given_known : Func → Known → Known
given_known Has known = replaced known Bool_type
given_known Node known = replaced known Tree_type
given_known _ known = known
