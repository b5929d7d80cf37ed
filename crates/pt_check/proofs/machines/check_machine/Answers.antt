use Rattle.std.proofs.Common.{◌≡◌, Ok, [], map, sym, ◌∙◌, ap, subst, rules}
use Rattle.pt_ast.specs.Trees.{BundleTree, InvariantTree, RuleTree}
use Rattle.pt_ast.specs.Names.{Scope}
use Rattle.pt_ast.specs.Plain.{plain_state, plain_rule, plain_machine}
use Rattle.pt_ast.specs.Suites.{bundles_of}
use Rattle.pt_typing.specs.Steps.{after, next_to}
use Rattle.pt_typing.specs.SuiteChecks.{condition, declared, in_order, each_named, checked_rule, checked_machine}
use Rattle.pt_check.specs.Known.{Known, with_bundles}
use Rattle.pt_check.specs.Says.{Says}
use Rattle.pt_check.proofs.machines.check_machine.Goals as goal

pub returns : goal.returns
returns c =
    let machine = c.args.machine.now in
    let m = plain_machine machine in
    let first = c.check_states.new.checker in
    let second = c.check_bundles.new.checker in
    let third = c.check_invariants.new.checker in
    let result = c.check_rules.result in
    let rules_due = λ (states bundles : Scope). each_named (λ (rule : RuleTree). rule.name) (checked_rule states bundles) [] m.rules in
    let order_due = λ (states : Scope). in_order (λ (invariant : InvariantTree). condition states invariant.cond) m.invariants in
    let names_due = each_named (λ (bundle : BundleTree). bundle.name) (λ bundle. Ok tt) [] m.bundles in
    let states_so : declared c.args.checker.now.scope (map plain_state machine.states) ≡ Ok first.scope = search rules in
    let states_is : declared [] m.states ≡ Ok first.scope = ap (λ (k : Known). declared k.scope m.states) (sym c.requires) ∙ states_so in
    let names_is : names_due ≡ Ok tt = search rules in
    let second_is : second ≡ with_bundles first (bundles_of m) = search rules in
    let scope_is : second.scope ≡ first.scope = ap (λ (k : Known). k.scope) second_is in
    let order_so : order_due second.scope ≡ Ok tt = search rules in
    let order_is : order_due first.scope ≡ Ok tt = ap order_due (sym scope_is) ∙ order_so in
    let third_is : third ≡ second = c.in_ok-check_invariants.ensures.same in
    let due : checked_machine m ≡ rules_due first.scope (bundles_of m) =
    ap (λ r. after r (λ states. next_to names_due (next_to (order_due states) (rules_due states (bundles_of m))))) states_is
    ∙ ap (λ r. next_to r (next_to (order_due first.scope) (rules_due first.scope (bundles_of m)))) names_is
    ∙ ap (λ r. next_to r (rules_due first.scope (bundles_of m))) order_is in
    let said : Says (rules_due third.scope third.context.bundles) (tt {0}) result =
    subst (λ rules. Says (each_named (λ (rule : RuleTree). rule.name) (checked_rule third.scope third.context.bundles) [] (map plain_rule rules)) (tt {0}) result)
    c.as_slice-4.ensures c.check_rules.ensures in
    let scopes : third.scope ≡ first.scope = ap (λ (k : Known). k.scope) third_is ∙ scope_is in
    let bundles : third.context.bundles ≡ bundles_of m = ap (λ (k : Known). k.context.bundles) third_is ∙ ap (λ (k : Known). k.context.bundles) second_is in
    subst (λ d. Says d (tt {0}) result) (sym due)
    (subst (λ s. Says (rules_due s (bundles_of m)) (tt {0}) result) scopes (subst (λ b. Says (rules_due third.scope b) (tt {0}) result) bundles said))
