use Rattle.std.proofs.Common.{◌≡◌, ◌≤◌, Bor, Err, length, map, rules, arith}
use Rattle.std.proofs.lemmas.List.{length-map}
use Rattle.pt_ast.specs.declared.suite.RuleDecl.{RuleDecl}
use Rattle.pt_ast.specs.Plain.{plain_rule, plain_machine}
use Rattle.pt_machine.proofs.StepLemmas.{turn-failed, turn-ended}
use Rattle.pt_machine.proofs.stepping.turn.Goals as goal

pub returns-in_err-next-clause-drew : goal.returns-in_err-next-clause-drew
returns-in_err-next-clause-drew c =
    let gave : c.from_residual-in_err-next.result ≡ Err c.in_err-next.field-0.0 = search rules in
    let found : 1 ≤ length c.in_ok-rules.rules.items = search rules in
    let many = length-map c.in_ok-rules.rules.items (λ (rule : Bor RuleDecl). plain_rule rule.now) in
    rw gave (turn-failed (plain_machine c.args.machine.now) c.args.world (map (λ (rule : Bor RuleDecl). plain_rule rule.now) c.in_ok-rules.rules.items)
    (rw c.as_slice.ensures at c.in_ok-rules.ensures) (omega (arith, found, many)) c.part_label.ensures c.in_ok-enter.ensures.drew
    c.in_ok-more.more c.in_ok-more.ensures.drew (rw (c.as_slice-2.ensures, c.as_slice-3.ensures.value) at c.in_err-next.ensures.drew))

pub returns-clause-drew : goal.returns-clause-drew
returns-clause-drew c =
    let found : 1 ≤ length c.in_ok-rules.rules.items = search rules in
    let many = length-map c.in_ok-rules.rules.items (λ (rule : Bor RuleDecl). plain_rule rule.now) in
    turn-ended (plain_machine c.args.machine.now) c.args.world (map (λ (rule : Bor RuleDecl). plain_rule rule.now) c.in_ok-rules.rules.items)
    (rw c.as_slice.ensures at c.in_ok-rules.ensures) (omega (arith, found, many)) c.part_label.ensures c.in_ok-enter.ensures.drew
    c.in_ok-more.more c.in_ok-more.ensures.drew (rw (c.as_slice-2.ensures, c.as_slice-3.ensures.value) at c.in_ok-next.ensures.drew) c.leave.ensures.left
