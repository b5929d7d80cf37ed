use Rattle.std.proofs.Common.{◌≡◌, Bor, Err, length, map, sym, rules}
use Rattle.std.proofs.lemmas.List.{length-map}
use Rattle.pt_ast.specs.declared.suite.RuleDecl.{RuleDecl}
use Rattle.pt_ast.specs.Plain.{plain_invariant, plain_rule}
use Rattle.pt_machine.proofs.ListLemmas.{mapped-at}
use Rattle.pt_machine.proofs.StepLemmas.{chosen-failed, chosen-made}
use Rattle.pt_machine.proofs.stepping.step_if.Goals as goal

pub returns-in_err-next-clause-drew : goal.returns-in_err-next-clause-drew
returns-in_err-next-clause-drew c =
    let gave : c.from_residual-in_err-next.result ≡ Err c.in_err-next.field-0.0 = search rules in
    rw gave (chosen-failed (map plain_invariant c.args.invariants.now) (map (λ (rule : Bor RuleDecl). plain_rule rule.now) c.args.rules.now) c.args.world
    c.args.more c.if-not-more.false (length c.args.rules.now) (sym (length-map c.args.rules.now (λ (rule : Bor RuleDecl). plain_rule rule.now)))
    c.in_ok-place.place c.in_ok-place.ensures.drew (plain_rule c.index-rules-place.result.now)
    (mapped-at (λ (rule : Bor RuleDecl). plain_rule rule.now) c.args.rules.now c.in_ok-place.place c.index-rules-place.result c.in_ok-place.ensures.within (search rules))
    c.in_err-next.ensures.drew)

pub returns-clause-drew : goal.returns-clause-drew
returns-clause-drew c =
    chosen-made (map plain_invariant c.args.invariants.now) (map (λ (rule : Bor RuleDecl). plain_rule rule.now) c.args.rules.now) c.args.world
    c.args.more c.if-not-more.false (length c.args.rules.now) (sym (length-map c.args.rules.now (λ (rule : Bor RuleDecl). plain_rule rule.now)))
    c.in_ok-place.place c.in_ok-place.ensures.drew (plain_rule c.index-rules-place.result.now)
    (mapped-at (λ (rule : Bor RuleDecl). plain_rule rule.now) c.args.rules.now c.in_ok-place.place c.index-rules-place.result c.in_ok-place.ensures.within (search rules))
    c.in_ok-next.ensures.drew
