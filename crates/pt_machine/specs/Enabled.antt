-- Which rules are enabled.
use Rattle.std.specs.Prelude.{nat_lt, ◌&&◌, Bool, true, Option, Some, None, Result, Ok, List, [], ◌∷◌, length, if◌then◌else◌}
use Rattle.std.specs.List.{list_all}
use Rattle.pt_case.specs.declared.ending.Origin.{Origin}
use Rattle.pt_ast.specs.declared.binding.Binding.{Binding}
use Rattle.pt_ast.specs.Trees.{ExprTree, StmtTree, Draw_of, Let_of, Assume_of, Assert_of, Pick_of, Set_of, Give_of, RuleTree}
use Rattle.pt_eval.specs.Parts.{truth_of}
use Rattle.pt_eval.specs.Value.{evaluated}
use Rattle.pt_strat.specs.declared.bundles.Bundle.{Bundle}
use Rattle.pt_strat.specs.declared.world.World.{World}
use Rattle.pt_strat.specs.Bundles.{entries_of}
use Rattle.pt_machine.specs.World.{on_ok}

-- if the statement picks from a bundle, that has an entry
abbrev pub has_entry : List Bundle → StmtTree → Bool
has_entry bundles (Draw_of at given strat) = true
has_entry bundles (Let_of at given expr) = true
has_entry bundles (Assume_of at cond) = true
has_entry bundles (Assert_of at cond) = true
has_entry bundles (Pick_of at num given bundle) = nat_lt 0 (length (entries_of bundle.name bundles))
has_entry bundles (Set_of at state expr) = true
has_entry bundles (Give_of at expr) = true

-- each bundle that the statements pick from has an entry
abbrev pub can_pick : List Bundle → List StmtTree → Bool
can_pick bundles stmts = list_all (has_entry bundles) stmts

-- a rule's precondition is true, or it has none
abbrev pub precondition : Option ExprTree → List Binding → Result Bool Origin
precondition None env = Ok true
precondition (Some cond) env = on_ok (evaluated cond env) (λ truth. Ok (truth_of truth))

-- its precondition is true, and it can pick what it picks; the precondition is evaluated all the same
abbrev pub is_enabled : RuleTree → World → Result Bool Origin
is_enabled rule world = on_ok (precondition rule.when world.env) (λ holds. Ok (holds && can_pick world.bundles rule.stmts))

-- the rules that are enabled, in the order of the text, or the first fault of a precondition
abbrev pub enabled_rules : List RuleTree → World → Result (List RuleTree) Origin
enabled_rules [] world = Ok []
enabled_rules (rule ∷ others) world =
    on_ok (is_enabled rule world) (λ enabled. on_ok (enabled_rules others world) (λ later. Ok (if enabled then rule ∷ later else later)))
