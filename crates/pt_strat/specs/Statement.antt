-- What statements do, in a property and in a rule.
use Rattle.std.specs.Prelude.{◌≡◌, ℕ, Option, None, Result, Ok, Err, List, [], ◌∷◌, ◌++◌, if◌then◌else◌}
use Rattle.pt_val.specs.declared.val.Val.{Val}
use Rattle.pt_case.specs.declared.ending.What.TheVariants as what
use Rattle.pt_case.specs.declared.ending.Origin.TheVariants.{Suite}
use Rattle.pt_ast.specs.declared.binding.Binding.{Binding}
use Rattle.pt_ast.specs.declared.ident.Ident.{Ident}
use Rattle.pt_ast.specs.Trees.{StmtTree, Draw_of, Let_of, Assume_of, Assert_of, Pick_of, Set_of, Give_of}
use Rattle.pt_eval.specs.Env.{bound, with_value}
use Rattle.pt_eval.specs.Parts.{truth_of}
use Rattle.pt_eval.specs.Value.{evaluated}
use Rattle.pt_plan.specs.declared.stop.DrawStop.{DrawStop}
use Rattle.pt_plan.specs.Plan.{Plan, Gives, Rejects, Faults, Notes, and_then, within}
use Rattle.pt_strat.specs.declared.bundles.Bundle.{Bundle}
use Rattle.pt_strat.specs.declared.world.World.{World}
use Rattle.pt_strat.specs.Labels.{node_label}
use Rattle.pt_strat.specs.Parts.{by_value, item_plan}
use Rattle.pt_strat.specs.Strategy.{plan_of}
use Rattle.pt_strat.specs.Bundles.{entries_of, given_into}

abbrev pub world_of : List Binding → List Bundle → World
world_of env bundles = record { env = env; bundles = bundles }

-- the world with one name more
abbrev pub with_name : List ℕ → Val → World → World
with_name name value world = world_of (world.env ++ bound name value ∷ []) world.bundles

-- a value is noted and bound
abbrev pub shown : List ℕ → World → Val → Plan World
shown name world value = Notes (record { name = name; val = value }) (Gives (with_name name value world))

-- what a statement does, where `give` gives into this bundle
abbrev pub stmt_plan : Option Ident → StmtTree → World → Plan World
stmt_plan into (Draw_of at given strat) world = and_then (plan_of strat Rejects world.env) (shown given.name world)
stmt_plan into (Let_of at given expr) world = by_value (evaluated expr world.env) (λ value. Gives (with_name given.name value world))
stmt_plan into (Assume_of at cond) world = by_value (evaluated cond world.env) (λ truth. if truth_of truth then Gives world else Rejects)
stmt_plan into (Assert_of at cond) world =
    by_value (evaluated cond world.env) (λ truth. if truth_of truth then Gives world else Faults (Suite what.Assert at))
stmt_plan into (Pick_of at num given bundle) world =
    and_then (within (node_label num) (item_plan (entries_of bundle.name world.bundles))) (shown given.name world)
stmt_plan into (Set_of at state expr) world =
    by_value (evaluated expr world.env) (λ value. Gives (world_of (with_value state.name value world.env) world.bundles))
stmt_plan into (Give_of at expr) world = by_value (evaluated expr world.env) (λ value. Gives (world_of world.env (given_into into value world.bundles)))

-- what statements do in order
abbrev pub body_plan : Option Ident → List StmtTree → World → Plan World
body_plan into [] world = Gives world
body_plan into (stmt ∷ stmts) world = and_then (stmt_plan into stmt world) (body_plan into stmts)

-- what the statements of a property do to the names; it has no bundles
abbrev pub names_plan : List StmtTree → List Binding → Plan (List Binding)
names_plan stmts env = and_then (body_plan None stmts (world_of env [])) (λ world. Gives world.env)

-- what a call answers that leaves this where it answers Ok
abbrev pub leaving : {A B : Type 0} → B → Result A DrawStop → Result B DrawStop
leaving left (Ok value) = Ok left
leaving left (Err why) = Err why

-- further names behind those that were there
abbrev pub Extends : List Binding → List Binding → Type 0
Extends old new = (added : List Binding) × (new ≡ old ++ added)
