-- What statements note. It shares with what they do only how they change the names and the bundles.
use Rattle.std.specs.Prelude.{◌≡◌, ◌⊎◌, Bool, true, false, Option, None, Ok, List, [], ◌∷◌}
use Rattle.std.specs.List.{Contains}
use Rattle.pt_val.specs.declared.val.Val.{Val}
use Rattle.pt_case.specs.declared.note.Note.{Note}
use Rattle.pt_ast.specs.declared.binding.Binding.{Binding}
use Rattle.pt_ast.specs.declared.ident.Ident.{Ident}
use Rattle.pt_ast.specs.Trees.{ExprTree, StmtTree, Draw_of, Let_of, Assume_of, Assert_of, Pick_of, Set_of, Give_of}
use Rattle.pt_eval.specs.Env.{with_value}
use Rattle.pt_eval.specs.Parts.{truth_of}
use Rattle.pt_eval.specs.Value.{evaluated}
use Rattle.pt_strat.specs.declared.world.World.{World}
use Rattle.pt_strat.specs.Bundles.{entries_of, given_into}
use Rattle.pt_strat.specs.Member.{IsOneOf}
use Rattle.pt_strat.specs.Statement.{world_of, with_name}

-- the condition is true where these names have these values
abbrev pub Holds : ExprTree → List Binding → Type 0
Holds cond env = (truth : Val) × (evaluated cond env ≡ Ok truth) × (truth_of truth ≡ true)

-- The statement was run to its end and noted the first of these, if it notes anything, and the rest are notes of what is done after it.
abbrev pub IsNotedBy : Option Ident → StmtTree → (World → List Note → Type 0) → World → List Note → Type 0
IsNotedBy into (Draw_of at given strat) Rest world [] = ⊥
IsNotedBy into (Draw_of at given strat) Rest world (note ∷ notes) =
    (note.name ≡ given.name) × IsOneOf strat world.env note.val × Rest (with_name given.name note.val world) notes
IsNotedBy into (Let_of at given expr) Rest world notes = (value : Val) × (evaluated expr world.env ≡ Ok value) × Rest (with_name given.name value world) notes
IsNotedBy into (Assume_of at cond) Rest world notes = Holds cond world.env × Rest world notes
IsNotedBy into (Assert_of at cond) Rest world notes = Holds cond world.env × Rest world notes
IsNotedBy into (Pick_of at num given bundle) Rest world [] = ⊥
IsNotedBy into (Pick_of at num given bundle) Rest world (note ∷ notes) =
    (note.name ≡ given.name) × Contains (entries_of bundle.name world.bundles) note.val × Rest (with_name given.name note.val world) notes
IsNotedBy into (Set_of at state expr) Rest world notes =
    (value : Val) × (evaluated expr world.env ≡ Ok value) × Rest (world_of (with_value state.name value world.env) world.bundles) notes
IsNotedBy into (Give_of at expr) Rest world notes =
    (value : Val) × (evaluated expr world.env ≡ Ok value) × Rest (world_of world.env (given_into into value world.bundles)) notes

-- These are notes of statements that give into this bundle, and then of what is done after them. A run that does not pass may end at
-- each statement.
abbrev pub AreNoted : Bool → Option Ident → List StmtTree → (World → List Note → Type 0) → World → List Note → Type 0
AreNoted passed into [] Rest world notes = Rest world notes
AreNoted passed into (stmt ∷ stmts) Rest world notes =
    ((passed ≡ false) × (notes ≡ [])) ⊎ IsNotedBy into stmt (AreNoted passed into stmts Rest) world notes

-- these are notes of the statements of a property where these names have these values; nothing is noted after the last
abbrev pub IsNoted : Bool → List StmtTree → List Binding → List Note → Type 0
IsNoted passed stmts env notes = AreNoted passed None stmts (λ world rest. rest ≡ []) (world_of env []) notes
