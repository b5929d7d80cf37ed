use Rattle.std.proofs.Common.{◌≡◌, Ok, length, take, map, sym, ◌∙◌, ap, rules}
use Rattle.pt_ast.specs.Plain.{plain_stmt}
use Rattle.pt_typing.specs.SuiteChecks.{bound_by_all}
use Rattle.pt_check.specs.Known.{Known, with_scope, with_target}
use Rattle.pt_check.proofs.MachineTurns.{cut-back}
use Rattle.pt_check.proofs.machines.check_rule.Goals as goal

pub returns-clause-same : goal.returns-clause-same
returns-clause-same c =
    let old = c.args.checker.now in
    let before = c.check_when.new.checker in
    let aimed = c.aim.new.self in
    let bound = c.check_stmts.new.checker in
    let target = aimed.context.target in
    let same : before ≡ old = c.in_ok-check_when.ensures.same in
    let scope : aimed.scope ≡ old.scope = ap (λ (k : Known). k.scope) c.in_ok-aim.ensures.aims ∙ ap (λ (k : Known). k.scope) same in
    let count : c.names-states.result ≡ length aimed.scope = c.names-states.ensures ∙ ap (λ (k : Known). length k.scope) same ∙ ap length (sym scope) in
    let said : bound_by_all aimed.context aimed.scope (map plain_stmt c.args.rule.now.stmts) ≡ Ok bound.scope = search rules in
    let back : take c.names-states.result bound.scope ≡ old.scope =
    ap (λ n. take n bound.scope) count ∙ cut-back aimed.context aimed.scope (map plain_stmt c.args.rule.now.stmts) bound.scope said ∙ scope in
    let chain : c.cut.new.self ≡ with_target old target =
    c.cut.ensures ∙ ap (with_scope bound) back ∙ ap (λ k. with_scope k old.scope) c.in_ok-check_stmts.ensures.same
    ∙ ap (λ k. with_scope k old.scope) c.in_ok-aim.ensures.aims ∙ ap (λ k. with_scope (with_target k target) old.scope) same in
    chain ∙ ap (with_target old) (sym (ap (λ (k : Known). k.context.target) chain))
