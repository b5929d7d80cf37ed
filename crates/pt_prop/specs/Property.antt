-- What a property does.
use Rattle.std.specs.Prelude.{Bool, true, false, List, []}
use Rattle.pt_case.specs.declared.ending.Ending.{Ending}
use Rattle.pt_case.specs.declared.ending.Ending.TheVariants.{Pass}
use Rattle.pt_ast.specs.declared.binding.Binding.{Binding}
use Rattle.pt_ast.specs.Trees.{StmtTree, BodyTree, Check_of, Property_of, Machine_of}
use Rattle.pt_plan.specs.Plan.{Plan, Gives, and_then}
use Rattle.pt_strat.specs.Statement.{names_plan}

-- the item is a property
abbrev pub is_property : BodyTree → Bool
is_property Check_of = false
is_property (Property_of stmts) = true
is_property (Machine_of machine) = false

-- its statements are run in order, no name having a value before them, and it passes at their end
abbrev pub property_plan : List StmtTree → Plan Ending
property_plan stmts = and_then (names_plan stmts []) (λ (names : List Binding). Gives Pass)
