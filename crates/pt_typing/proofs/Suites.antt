-- What the check of a suite comes to.
use Rattle.std.proofs.Common.{◌≡◌, ℕ, true, Option, Some, None, Result, Ok, List, [], ◌∷◌, refl}
use Rattle.std.specs.Prelude.{◌==◌}
use Rattle.std.specs.Cmp.Lexicographic.{pointwise}
use Rattle.std.specs.List.{AllByRecursion, list_any, Contains}
use Rattle.std.specs.Option.{option_to_list}
use Rattle.pt_ast.specs.declared.ident.Ident.{Ident}
use Rattle.pt_ast.specs.Types.{TypeTree, Bool_type}
use Rattle.pt_ast.specs.Trees.{ExprTree, place_of, StmtTree, Draw_of, Let_of, Assume_of, Assert_of, Pick_of, Set_of, Give_of, StateTree, RuleTree, MachineTree, BodyTree, Check_of, Property_of, Machine_of, SuiteTree}
use Rattle.pt_ast.specs.Bounds.{gives}
use Rattle.pt_ast.specs.Names.{Scope, type_in, with_name}
use Rattle.pt_ast.specs.Typing.{HasType}
use Rattle.pt_ast.specs.Suites.{Context, no_context, Binds, BindAll, Declare, bundles_of, Targets, IsTypedRule, IsTypedMachine, IsTypedBody, IsTypedItem, IsTyped}
use Rattle.pt_typing.specs.Fault.{Fault, Wrong, UnknownCheck}
use Rattle.pt_typing.specs.SuiteChecks.{condition, bound, bound_by_all, declared, in_order, target_of, given_into, checked_rule, checked_machine, checked_body, checked_suite}
use Rattle.pt_typing.specs.SuiteFaults.{FaultInCondition, FaultInStmt, FaultInStmts, FaultInStates, FaultInOrder, UnknownTarget, Leads, NeverGives, seen_by, FaultInRule, FaultInMachine, FaultInBody, FaultInSuite}
use Rattle.pt_typing.specs.Laws.{IsCheck}
use Rattle.pt_typing.proofs.Steps.{means, ok-check, after-check, next-check, giving-check, made-check, known-check, right-check, if-check}
use Rattle.pt_typing.proofs.Serving.{needs-check}
use Rattle.pt_typing.proofs.Exprs.{free-check, expr-check}
use Rattle.pt_typing.proofs.Strats.{strat-check}
use Rattle.pt_typing.proofs.Names.{found-contained, contained-found, none-seen, named-check}

condition-check : (scope : Scope) (cond : ExprTree) → IsCheck (λ _. HasType scope cond Bool_type) (FaultInCondition scope cond) (condition scope cond)
condition-check scope cond = needs-check Bool_type (place_of cond) (expr-check cond scope)

pub stmt-check : (context : Context) (scope : Scope) (stmt : StmtTree) → IsCheck (Binds context scope stmt) (FaultInStmt context scope stmt) (bound context scope stmt)
stmt-check context scope (Draw_of at given strat) =
    means (next-check (free-check scope given) (λ free. made-check (with_name scope given) (strat-check strat scope None)))
    (λ next is. (is.1.0, is.0, is.1.1, is.1.2)) (λ next is. (is.1, (is.0, is.2, is.3)))
stmt-check context scope (Let_of at given value) =
    means (next-check (free-check scope given) (λ free. made-check (with_name scope given) (expr-check value scope)))
    (λ next is. (is.1.0, is.0, is.1.1, is.1.2)) (λ next is. (is.1, (is.0, is.2, is.3)))
stmt-check context scope (Assume_of at cond) = giving-check scope (condition-check scope cond)
stmt-check context scope (Assert_of at cond) = giving-check scope (condition-check scope cond)
stmt-check context scope (Pick_of at num given bundle) =
    means (next-check (free-check scope given) (λ free. made-check (with_name scope given) (known-check bundle.at (type_in bundle.name context.bundles))))
    (λ next is. (is.1.0, is.0, is.1.1, is.1.2)) (λ next is. (is.1, (is.0, is.2, is.3)))
stmt-check context scope (Set_of at state value) =
    means (after-check (known-check state.at (type_in state.name context.states)) (λ type state_is. giving-check scope (needs-check type (place_of value) (expr-check value scope))))
    (λ next is. (is.0, is.1, is.2.0, is.2.1)) (λ next is. (is.0, is.1, (is.2, is.3)))
stmt-check context scope (Give_of at value) =
    means (after-check (right-check at context.target (record { gives = λ type is. is; takes = λ type is. is }))
    (λ type target_is. giving-check scope (needs-check type (place_of value) (expr-check value scope))))
    (λ next is. (is.0, is.1, is.2.0, is.2.1)) (λ next is. (is.0, is.1, (is.2, is.3)))

pub stmts-check : (stmts : List StmtTree) (context : Context) (scope : Scope) → IsCheck (BindAll context scope stmts) (FaultInStmts context scope stmts) (bound_by_all context scope stmts)
stmts-check [] context scope = ok-check scope
stmts-check (first ∷ others) context scope = after-check (stmt-check context scope first) (λ next first_is. stmts-check others context next)

pub states-check : (states : List StateTree) (scope : Scope) → IsCheck (Declare scope states) (FaultInStates scope states) (declared scope states)
states-check [] scope = ok-check scope
states-check (state ∷ others) scope =
    means (next-check (free-check scope state.name) (λ free. after-check (expr-check state.init scope) (λ type init_is. states-check others (with_name scope state.name type))))
    (λ next is. (is.1.0, is.0, is.1.1, is.1.2)) (λ next is. (is.1, (is.0, is.2, is.3)))

order-check : {A : Type 0} (Good : A → Type 0) (Faulty : A → Fault → Type 0) (check : A → Result (Unit {0}) Fault) →
    ((one : A) → IsCheck (λ _. Good one) (Faulty one) (check one)) → (list : List A) → IsCheck (λ _. AllByRecursion Good list) (FaultInOrder Good Faulty list) (in_order check list)
order-check Good Faulty check each [] = means (ok-check tt) (λ v is. tt) (λ v is. refl)
order-check Good Faulty check each (first ∷ others) = next-check (each first) (λ good. order-check Good Faulty check each others)

target-check : (bundles : Scope) (into : Option Ident) → IsCheck (Leads bundles into) (UnknownTarget bundles into) (target_of bundles into)
target-check bundles None = ok-check None
target-check bundles (Some bundle) = made-check Some (known-check bundle.at (type_in bundle.name bundles))

-- a rule that names a bundle gives
abbrev Gives : RuleTree → Option Ident → Type 0
Gives rule None = Unit {0}
Gives rule (Some bundle) = list_any gives rule.stmts ≡ true

given-check : (rule : RuleTree) (into : Option Ident) → IsCheck (λ _. Gives rule into) (NeverGives rule into) (given_into rule into)
given-check rule None = means (ok-check tt) (λ v is. tt) (λ v is. refl)
given-check rule (Some bundle) =
    if-check (list_any gives rule.stmts) (Wrong bundle.at) (list_any gives rule.stmts ≡ true) (¬ (list_any gives rule.stmts ≡ true))
    (λ is. is) (λ no is. cc) (λ is no. no is)

targets-there : (bundles : Scope) (rule : RuleTree) (into : Option Ident) (target : Option TypeTree) → Leads bundles into target → Gives rule into → Targets bundles rule into target
targets-there bundles rule None target leads given = leads
targets-there bundles rule (Some bundle) target leads given = (leads.0, leads.1, leads.2, given)

targets-back : (bundles : Scope) (rule : RuleTree) (into : Option Ident) (target : Option TypeTree) → Targets bundles rule into target → Leads bundles into target × Gives rule into
targets-back bundles rule None target targets = (targets, tt)
targets-back bundles rule (Some bundle) target targets = ((targets.0, targets.1, targets.2), targets.3)

pub rule-check : (states bundles : Scope) (rule : RuleTree) → IsCheck (λ _. IsTypedRule states bundles rule) (FaultInRule states bundles rule) (checked_rule states bundles rule)
rule-check states bundles rule =
    means (next-check (order-check (λ cond. HasType states cond Bool_type) (FaultInCondition states) (condition states) (condition-check states) (option_to_list rule.when))
    (λ when. after-check (target-check bundles rule.into)
    (λ target leads. after-check (stmts-check rule.stmts (seen_by states bundles target) states) (λ behind stmts. given-check rule rule.into))))
    (λ v is. record {
      when = is.0;
      target = is.1.0;
      into = targets-there bundles rule rule.into is.1.0 is.1.1 is.1.2.2;
      after = is.1.2.0;
      stmts = is.1.2.1;
    })
    (λ v is. let both = targets-back bundles rule rule.into is.target is.into in (is.when, (is.target, both.0, (is.after, is.stmts, both.1))))

-- nothing is asked of any
all-fine : {A : Type 0} (list : List A) → AllByRecursion (λ one. Unit {0}) list
all-fine [] = tt
all-fine (first ∷ others) = (tt, all-fine others)

pub machine-check : (machine : MachineTree) → IsCheck (λ _. IsTypedMachine machine) (FaultInMachine machine) (checked_machine machine)
machine-check machine =
    means (after-check (states-check machine.states []) (λ states declared.
    next-check (means (named-check (λ bundle. bundle.name) (λ bundle. Unit {0}) (λ bundle _. ⊥) (λ _. Ok tt) (λ bundle. means (ok-check tt) (λ v is. tt) (λ v is. refl)) machine.bundles [] none-seen)
    (λ v is. is.0) (λ v is. (is, all-fine machine.bundles))) (λ bundles.
    next-check (order-check (λ invariant. HasType states invariant.cond Bool_type) (λ invariant. FaultInCondition states invariant.cond)
    (λ invariant. condition states invariant.cond) (λ invariant. condition-check states invariant.cond) machine.invariants) (λ invariants.
    named-check (λ rule. rule.name) (IsTypedRule states (bundles_of machine)) (FaultInRule states (bundles_of machine)) (checked_rule states (bundles_of machine))
    (rule-check states (bundles_of machine)) machine.rules [] none-seen))))
    (λ v is. record {
      states = is.0;
      declared = is.1;
      distinct_bundles = is.2.0;
      invariants = is.2.1.0;
      distinct_rules = is.2.1.1.0;
      rules = is.2.1.1.1;
    })
    (λ v is. (is.states, is.declared, (is.distinct_bundles, (is.invariants, (is.distinct_rules, is.rules)))))

pub body-check : (known : List (List ℕ)) (name : Ident) (body : BodyTree) → IsCheck (λ _. IsTypedBody known name body) (FaultInBody known name body) (checked_body known name body)
body-check known name Check_of =
    if-check (list_any (pointwise ◌==◌ name.name) known) (UnknownCheck name.at) (Contains known name.name) (¬ Contains known name.name)
    (found-contained name.name known) (λ lost contained. let found = contained-found name.name known contained in cc) (λ contained absent. absent contained)
body-check known name (Property_of stmts) =
    means (made-check (λ _. tt) (stmts-check stmts no_context [])) (λ v is. (is.0, is.1)) (λ v is. (is.0, is.1, refl))
body-check known name (Machine_of machine) = machine-check machine

pub suite-check : (known : List (List ℕ)) (suite : SuiteTree) → IsCheck (λ _. IsTyped known suite) (FaultInSuite known suite) (checked_suite known suite)
suite-check known suite =
    means (named-check (λ item. item.name) (IsTypedItem known) (λ item. FaultInBody known item.name item.body) (λ item. checked_body known item.name item.body)
    (λ item. body-check known item.name item.body) suite.items [] none-seen)
    (λ v is. record { distinct = is.0; items = is.1 }) (λ v is. (is.distinct, is.items))
