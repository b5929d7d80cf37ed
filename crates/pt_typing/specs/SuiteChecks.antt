-- What the check of a suite comes to: nothing, or its first fault.
use Rattle.std.specs.Prelude.{◌==◌, ℕ, Option, Some, None, Result, Ok, Err, List, [], ◌∷◌, ◌++◌, if◌then◌else◌}
use Rattle.std.specs.Cmp.Lexicographic.{pointwise}
use Rattle.std.specs.List.{list_any}
use Rattle.std.specs.Option.{option_to_list}
use Rattle.pt_ast.specs.declared.ident.Ident.{Ident}
use Rattle.pt_ast.specs.Types.{TypeTree, Bool_type}
use Rattle.pt_ast.specs.Trees.{ExprTree, place_of, StmtTree, Draw_of, Let_of, Assume_of, Assert_of, Pick_of, Set_of, Give_of, StateTree, RuleTree, MachineTree, BodyTree, Check_of, Property_of, Machine_of, SuiteTree}
use Rattle.pt_ast.specs.Bounds.{gives}
use Rattle.pt_ast.specs.Names.{Scope, type_in, with_name}
use Rattle.pt_ast.specs.Suites.{Context, no_context, bundles_of}
use Rattle.pt_typing.specs.Fault.{Fault, Twice, Wrong, UnknownCheck}
use Rattle.pt_typing.specs.Steps.{after, next_to, giving, made_of, known, right}
use Rattle.pt_typing.specs.ExprChecks.{needs, free, checked}
use Rattle.pt_typing.specs.StratChecks.{drawn}

-- a condition
abbrev pub condition : Scope → ExprTree → Result (Unit {0}) Fault
condition scope cond = needs Bool_type (place_of cond) (checked scope cond)

-- the names behind a statement
abbrev pub bound : Context → Scope → StmtTree → Result Scope Fault
bound context scope (Draw_of at given strat) = next_to (free scope given) (made_of (with_name scope given) (drawn scope None strat))
bound context scope (Let_of at given value) = next_to (free scope given) (made_of (with_name scope given) (checked scope value))
bound context scope (Assume_of at cond) = giving (condition scope cond) scope
bound context scope (Assert_of at cond) = giving (condition scope cond) scope
bound context scope (Pick_of at num given bundle) =
    next_to (free scope given) (made_of (with_name scope given) (known bundle.at (type_in bundle.name context.bundles)))
bound context scope (Set_of at state value) =
    after (known state.at (type_in state.name context.states)) (λ type. giving (needs type (place_of value) (checked scope value)) scope)
bound context scope (Give_of at value) = after (right at context.target) (λ type. giving (needs type (place_of value) (checked scope value)) scope)

-- and behind statements
abbrev pub bound_by_all : Context → Scope → List StmtTree → Result Scope Fault
bound_by_all context scope [] = Ok scope
bound_by_all context scope (first ∷ others) = after (bound context scope first) (λ next. bound_by_all context next others)

-- the states in scope behind their declarations
abbrev pub declared : Scope → List StateTree → Result Scope Fault
declared scope [] = Ok scope
declared scope (state ∷ others) =
    next_to (free scope state.name) (after (checked scope state.init) (λ type. declared (with_name scope state.name type) others))

-- one after another
abbrev pub in_order : {A : Type 0} → (A → Result (Unit {0}) Fault) → List A → Result (Unit {0}) Fault
in_order check [] = Ok tt
in_order check (first ∷ others) = next_to (check first) (in_order check others)

-- a name that none of the earlier things has
abbrev pub fresh : List (List ℕ) → Ident → Result (Unit {0}) Fault
fresh seen given = if list_any (pointwise ◌==◌ given.name) seen then Err (Twice given.at) else Ok tt

-- one after another, each with a name of its own
abbrev pub each_named : {A : Type 0} → (A → Ident) → (A → Result (Unit {0}) Fault) → List (List ℕ) → List A → Result (Unit {0}) Fault
each_named named check seen [] = Ok tt
each_named named check seen (first ∷ others) =
    next_to (fresh seen (named first)) (next_to (check first) (each_named named check (seen ++ (named first).name ∷ []) others))

-- the type of the bundle that a rule gives into, if it names one
abbrev pub target_of : Scope → Option Ident → Result (Option TypeTree) Fault
target_of bundles None = Ok None
target_of bundles (Some bundle) = made_of Some (known bundle.at (type_in bundle.name bundles))

-- a rule that names a bundle gives
abbrev pub given_into : RuleTree → Option Ident → Result (Unit {0}) Fault
given_into rule None = Ok tt
given_into rule (Some bundle) = if list_any gives rule.stmts then Ok tt else Err (Wrong bundle.at)

abbrev pub checked_rule : Scope → Scope → RuleTree → Result (Unit {0}) Fault
checked_rule states bundles rule = next_to (in_order (condition states) (option_to_list rule.when)) (after (target_of bundles rule.into)
    (λ target. after (bound_by_all (record { states = states; bundles = bundles; target = target }) states rule.stmts) (λ _. given_into rule rule.into)))

abbrev pub checked_machine : MachineTree → Result (Unit {0}) Fault
checked_machine machine = after (declared [] machine.states) (λ states.
    next_to (each_named (λ bundle. bundle.name) (λ _. Ok tt) [] machine.bundles) (
    next_to (in_order (λ invariant. condition states invariant.cond) machine.invariants)
    (each_named (λ rule. rule.name) (checked_rule states (bundles_of machine)) [] machine.rules)))

abbrev pub checked_body : List (List ℕ) → Ident → BodyTree → Result (Unit {0}) Fault
checked_body known name Check_of = if list_any (pointwise ◌==◌ name.name) known then Ok tt else Err (UnknownCheck name.at)
checked_body known name (Property_of stmts) = made_of (λ _. tt) (bound_by_all no_context [] stmts)
checked_body known name (Machine_of machine) = checked_machine machine

abbrev pub checked_suite : List (List ℕ) → SuiteTree → Result (Unit {0}) Fault
checked_suite known suite = each_named (λ item. item.name) (λ item. checked_body known item.name item.body) [] suite.items
