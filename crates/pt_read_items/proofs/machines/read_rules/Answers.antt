use Rattle.std.proofs.Common.{◌≡◌, ◌-◌, length, ◌++◌, ◌∷◌, [], true, refl, sym, ap, ◌∙◌, arith, length-append}
use Rattle.std.proofs.lemmas.Result.{err_from_is_err_and}
use Rattle.std.proofs.lemmas.List.{map_push}
use Rattle.pt_ast.specs.Numbers.{stmts_numbers}
use Rattle.pt_ast.specs.Trees.{RuleTree}
use Rattle.pt_ast.specs.Plain.{plain_rule}
use Rattle.pt_grammar.specs.Reading.{goes_on}
use Rattle.pt_grammar.specs.SuiteReading.{is_rule}
use Rattle.pt_grammar.specs.declared.sort.Sort.TheVariants as sort
use Rattle.pt_taking.specs.declared.stop.Stop.TheVariants as stop
use Rattle.pt_read_items.proofs.Room.{not_full, is_full, room_on, room_ends, room_fails, room_full, rule_refused}
use Rattle.pt_read_strats.proofs.Counts.{numbers_more}
use Rattle.pt_read_items.proofs.machines.read_rules.Goals as goal

pub returns-then-len-eq-MOST-clause-gives : goal.returns-then-len-eq-MOST-clause-gives
returns-then-len-eq-MOST-clause-gives c =
    let goes : goes_on is_rule c.loop-alloc.rest.now ≡ true = sym c.starts.ensures ∙ c.loop-alloc-test.true in
    room_full c.loop-alloc.invariant.roomy goes (is_full plain_rule c.loop-alloc.rules c.len.result 64 c.len.ensures c.if-len-eq-MOST.true)
    (stop.At sort.OutOfRange c.loop-alloc.rest) (rule_refused c.args.left c.loop-alloc.next c.loop-alloc.rest.now goes)

pub returns-in_err-rule-clause-gives : goal.returns-in_err-rule-clause-gives
returns-in_err-rule-clause-gives c =
    let p = err_from_is_err_and c.from_residual.result c.from_residual.ensures.1 in
    let goes : goes_on is_rule c.loop-alloc.rest.now ≡ true = sym c.starts.ensures ∙ c.loop-alloc-test.true in
    rw (p.1, p.2) (room_fails c.loop-alloc.invariant.roomy goes
    (not_full plain_rule c.loop-alloc.rules c.len.result 64 _ c.loop-alloc.invariant.roomy.fits c.len.ensures c.if-len-eq-MOST.false)
    c.in_err-rule.field-0.0 c.in_err-rule.ensures.gives)

pub loop-alloc-preserved : goal.loop-alloc-preserved
loop-alloc-preserved c =
    let goes : goes_on is_rule c.loop-alloc.rest.now ≡ true = sym c.starts.ensures ∙ c.loop-alloc-test.true in
    let rules = c.loop-alloc.rules in
    let rule = c.in_ok-rule.rule in record {
      roomy = rw (c.in_ok-push.ensures.ok, map_push plain_rule rules rule) (room_on c.loop-alloc.invariant.roomy goes
          (not_full plain_rule rules c.len.result 64 _ c.loop-alloc.invariant.roomy.fits c.len.ensures c.if-len-eq-MOST.false)
          (plain_rule rule) c.in_ok-rule.after.now c.in_ok-rule.ensures.gives c.in_ok-rule.ensures.shorter
          (64 - length (rules ++ rule ∷ []), c.in_ok-rule.later)
          (let room : 64 - length (rules ++ rule ∷ []) ≡ (64 - length rules) - 1 = omega (arith, length-append rules (rule ∷ [])) in
          ap (λ n. (n, c.in_ok-rule.later)) room ∙ ap (λ n. ((64 - length rules) - 1, n)) c.in_ok-rule.ensures.next) refl);
      numbers = rw c.in_ok-push.ensures.ok (omega (arith, c.loop-alloc.invariant.numbers, c.in_ok-rule.ensures.next, numbers_more (λ (r : RuleTree). stmts_numbers r.stmts) plain_rule rules rule));
      few = omega (arith, c.loop-alloc.invariant.few, c.in_ok-rule.ensures.room);
    }

pub returns-clause-gives : goal.returns-clause-gives
returns-clause-gives c = room_ends c.loop-alloc.invariant.roomy (sym c.starts.ensures ∙ c.loop-alloc-test.false)
