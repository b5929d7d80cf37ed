-- The first fault of a suite, as a relation.
use Rattle.std.specs.Prelude.{◌≡◌, ◌⊎◌, ℕ, Option, Some, None, List, [], ◌∷◌, ◌++◌, true, map, Contains}
use Rattle.std.specs.List.{AllByRecursion, list_any}
use Rattle.std.specs.Option.{option_to_list}
use Rattle.pt_ast.specs.declared.ident.Ident.{Ident}
use Rattle.pt_ast.specs.Types.{TypeTree, Bool_type}
use Rattle.pt_ast.specs.Trees.{ExprTree, StmtTree, Draw_of, Let_of, Assume_of, Assert_of, Pick_of, Set_of, Give_of, StateTree, RuleTree, MachineTree, BodyTree, Check_of, Property_of, Machine_of, SuiteTree}
use Rattle.pt_ast.specs.Bounds.{gives}
use Rattle.pt_ast.specs.Names.{Scope, type_in, IsFree, with_name, AreDistinct}
use Rattle.pt_ast.specs.Typing.{HasType}
use Rattle.pt_ast.specs.Suites.{Context, no_context, Binds, BindAll, Declare, bundles_of, IsTypedRule, IsTypedItem}
use Rattle.pt_typing.specs.Fault.{Fault, Unknown, Twice, UnknownCheck}
use Rattle.pt_typing.specs.Serving.{Is}
use Rattle.pt_typing.specs.ExprFaults.{IsWrong, Unfit, IsTaken, FaultIn}
use Rattle.pt_typing.specs.StratFaults.{FaultInStrat}

-- of a condition
abbrev pub FaultInCondition : Scope → ExprTree → Fault → Type 0
FaultInCondition scope cond fault = Unfit scope cond (FaultIn scope cond) (Is Bool_type) fault

-- the name is not among these
abbrev pub IsUnknown : Scope → Ident → Fault → Type 0
IsUnknown names given fault = (type_in given.name names ≡ None) × (fault ≡ Unknown given.at)

-- a rule gives into a bundle
abbrev pub HasTarget : Context → Type 0
HasTarget context = (type : TypeTree) × (context.target ≡ Some type)

-- of a statement where these names are in scope
abbrev pub FaultInStmt : Context → Scope → StmtTree → Fault → Type 0
FaultInStmt context scope (Draw_of at given strat) fault = IsTaken scope given fault ⊎ (IsFree scope given × FaultInStrat scope None strat fault)
FaultInStmt context scope (Let_of at given value) fault = IsTaken scope given fault ⊎ (IsFree scope given × FaultIn scope value fault)
FaultInStmt context scope (Assume_of at cond) fault = FaultInCondition scope cond fault
FaultInStmt context scope (Assert_of at cond) fault = FaultInCondition scope cond fault
FaultInStmt context scope (Pick_of at num given bundle) fault = IsTaken scope given fault ⊎ (IsFree scope given × IsUnknown context.bundles bundle fault)
FaultInStmt context scope (Set_of at state value) fault = IsUnknown context.states state fault
    ⊎ ((type : TypeTree) × (type_in state.name context.states ≡ Some type) × Unfit scope value (FaultIn scope value) (Is type) fault)
FaultInStmt context scope (Give_of at value) fault = IsWrong (HasTarget context) at fault
    ⊎ ((type : TypeTree) × (context.target ≡ Some type) × Unfit scope value (FaultIn scope value) (Is type) fault)

-- of statements
abbrev pub FaultInStmts : Context → Scope → List StmtTree → Fault → Type 0
FaultInStmts context scope [] fault = ⊥
FaultInStmts context scope (first ∷ others) fault = FaultInStmt context scope first fault
    ⊎ ((next : Scope) × Binds context scope first next × FaultInStmts context next others fault)

-- of a machine's states
abbrev pub FaultInStates : Scope → List StateTree → Fault → Type 0
FaultInStates scope [] fault = ⊥
FaultInStates scope (state ∷ others) fault = IsTaken scope state.name fault
    ⊎ (IsFree scope state.name × (FaultIn scope state.init fault
    ⊎ ((type : TypeTree) × HasType scope state.init type × FaultInStates (with_name scope state.name type) others fault)))

-- of things one after another
abbrev pub FaultInOrder : {A : Type 0} → (A → Type 0) → (A → Fault → Type 0) → List A → Fault → Type 0
FaultInOrder Right Faulty [] fault = ⊥
FaultInOrder Right Faulty (first ∷ others) fault = Faulty first fault ⊎ (Right first × FaultInOrder Right Faulty others fault)

-- a thing has the name of an earlier one
abbrev pub IsRepeated : List (List ℕ) → Ident → Fault → Type 0
IsRepeated seen given fault = Contains seen given.name × (fault ≡ Twice given.at)

-- of things one after another, each with a name of its own
abbrev pub FaultInNamed : {A : Type 0} → (A → Ident) → (A → Type 0) → (A → Fault → Type 0) → List (List ℕ) → List A → Fault → Type 0
FaultInNamed named Right Faulty seen [] fault = ⊥
FaultInNamed named Right Faulty seen (first ∷ others) fault = IsRepeated seen (named first) fault
    ⊎ ((¬ Contains seen (named first).name) × (Faulty first fault
    ⊎ (Right first × FaultInNamed named Right Faulty (seen ++ (named first).name ∷ []) others fault)))

-- the bundle that a rule names is not there
abbrev pub UnknownTarget : Scope → Option Ident → Fault → Type 0
UnknownTarget bundles None fault = ⊥
UnknownTarget bundles (Some bundle) fault = IsUnknown bundles bundle fault

-- the type of its entries
abbrev pub Leads : Scope → Option Ident → Option TypeTree → Type 0
Leads bundles None target = target ≡ None
Leads bundles (Some bundle) target = (type : TypeTree) × (type_in bundle.name bundles ≡ Some type) × (target ≡ Some type)

-- a rule that names a bundle gives nothing
abbrev pub NeverGives : RuleTree → Option Ident → Fault → Type 0
NeverGives rule None fault = ⊥
NeverGives rule (Some bundle) fault = IsWrong (list_any gives rule.stmts ≡ true) bundle.at fault

-- what its statements see
abbrev pub seen_by : Scope → Scope → Option TypeTree → Context
seen_by states bundles target = record { states = states; bundles = bundles; target = target }

-- of a rule beside these states and bundles
abbrev pub FaultInRule : Scope → Scope → RuleTree → Fault → Type 0
FaultInRule states bundles rule fault =
    FaultInOrder (λ cond. HasType states cond Bool_type) (FaultInCondition states) (option_to_list rule.when) fault
    ⊎ (AllByRecursion (λ cond. HasType states cond Bool_type) (option_to_list rule.when) × (UnknownTarget bundles rule.into fault
    ⊎ ((target : Option TypeTree) × Leads bundles rule.into target × (FaultInStmts (seen_by states bundles target) states rule.stmts fault
    ⊎ ((after : Scope) × BindAll (seen_by states bundles target) states rule.stmts after × NeverGives rule rule.into fault)))))

-- of a machine: its states, bundles, invariants and rules, in this order
abbrev pub FaultInMachine : MachineTree → Fault → Type 0
FaultInMachine machine fault = FaultInStates [] machine.states fault
    ⊎ ((states : Scope) × Declare [] machine.states states × (
    FaultInNamed (λ bundle. bundle.name) (λ bundle. Unit {0}) (λ bundle _. ⊥) [] machine.bundles fault
    ⊎ (AreDistinct (map (λ bundle. bundle.name.name) machine.bundles) × (
    FaultInOrder (λ invariant. HasType states invariant.cond Bool_type) (λ invariant. FaultInCondition states invariant.cond) machine.invariants fault
    ⊎ (AllByRecursion (λ invariant. HasType states invariant.cond Bool_type) machine.invariants
    × FaultInNamed (λ rule. rule.name) (IsTypedRule states (bundles_of machine)) (FaultInRule states (bundles_of machine)) [] machine.rules fault)))))

-- of what an item tests, where these checks are handed in
abbrev pub FaultInBody : List (List ℕ) → Ident → BodyTree → Fault → Type 0
FaultInBody known name Check_of fault = (¬ Contains known name.name) × (fault ≡ UnknownCheck name.at)
FaultInBody known name (Property_of stmts) fault = FaultInStmts no_context [] stmts fault
FaultInBody known name (Machine_of machine) fault = FaultInMachine machine fault

-- the suite's first fault, where these checks are handed in
abbrev pub FaultInSuite : List (List ℕ) → SuiteTree → Fault → Type 0
FaultInSuite known suite fault =
    FaultInNamed (λ item. item.name) (IsTypedItem known) (λ item. FaultInBody known item.name item.body) [] suite.items fault
