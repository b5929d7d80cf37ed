-- The world in which a machine's steps are made: how it begins, and what holds of it.
use Rattle.std.specs.Prelude.{◌++◌, Result, Ok, Err, List, [], ◌∷◌, map, if◌then◌else◌}
use Rattle.pt_case.specs.declared.ending.What.TheVariants as what
use Rattle.pt_case.specs.declared.ending.Origin.{Origin}
use Rattle.pt_case.specs.declared.ending.Origin.TheVariants.{Suite}
use Rattle.pt_ast.specs.declared.binding.Binding.{Binding}
use Rattle.pt_ast.specs.Trees.{StateTree, BundleTree, InvariantTree, MachineTree}
use Rattle.pt_eval.specs.Env.{bound}
use Rattle.pt_eval.specs.Parts.{truth_of}
use Rattle.pt_eval.specs.Value.{evaluated}
use Rattle.pt_strat.specs.declared.bundles.Bundle.{Bundle}
use Rattle.pt_strat.specs.declared.world.World.{World}
use Rattle.pt_strat.specs.Statement.{world_of}

-- what follows from a value; a fault stays
abbrev pub on_ok : {A B : Type 0} → Result A Origin → (A → Result B Origin) → Result B Origin
on_ok (Ok value) next = next value
on_ok (Err fault) next = Err fault

-- these states behind the names that are there, each with the value that it begins with, which may speak of those before it
abbrev pub states_from : List StateTree → List Binding → Result (List Binding) Origin
states_from [] env = Ok env
states_from (state ∷ others) env = on_ok (evaluated state.init env) (λ value. states_from others (env ++ bound state.name.name value ∷ []))

-- all invariants are true, or this is what the first that is not ends the run with
abbrev pub held : List InvariantTree → List Binding → Result (Unit {0}) Origin
held [] env = Ok tt
held (invariant ∷ others) env =
    on_ok (evaluated invariant.cond env) (λ truth. if truth_of truth then held others env else Err (Suite what.Invariant invariant.at))

-- a bundle begins with no entries
abbrev pub empty_bundle : BundleTree → Bundle
empty_bundle bundle = record { name = bundle.name.name; entries = [] }

-- the world in which a run begins, if the invariants are true in it
abbrev pub first_world : MachineTree → Result World Origin
first_world machine =
    on_ok (states_from machine.states []) (λ env. on_ok (held machine.invariants env) (λ _. Ok (world_of env (map empty_bundle machine.bundles))))
