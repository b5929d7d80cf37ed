use Rattle.std.proofs.Common.{◌≡◌, true, sym, subst, ◌∙◌, arith}
use Rattle.std.proofs.lemmas.Result.{err_from_is_err_and}
use Rattle.std.proofs.lemmas.List.{map_push}
use Rattle.pt_ast.specs.Numbers.{stmt_numbers}
use Rattle.pt_ast.specs.Plain.{plain_stmt}
use Rattle.pt_grammar.specs.Reading.{goes_on}
use Rattle.pt_grammar.specs.SuiteReading.{begins_stmt}
use Rattle.pt_taking.specs.Gives.{Fails}
use Rattle.pt_taking.proofs.Rows.{row_on, row_ends, row_fails, with_front_none, some_left}
use Rattle.pt_read_strats.proofs.Counts.{numbers_more}
use Rattle.pt_read_stmts.proofs.stmts.read_stmts.Goals as goal

pub returns-in_err-stmt-clause-gives : goal.returns-in_err-stmt-clause-gives
returns-in_err-stmt-clause-gives c =
    let p = err_from_is_err_and c.from_residual.result c.from_residual.ensures.1 in
    let goes : goes_on (begins_stmt c.args.in_rule) c.loop-alloc.rest.now ≡ true = sym c.begins_stmt.ensures ∙ c.loop-alloc-test.true in
    rw (p.1, p.2) (subst (Fails c.in_err-stmt.field-0.0) (with_front_none _)
    (row_fails c.loop-alloc.invariant.row goes (some_left (begins_stmt c.args.in_rule) c.loop-alloc.rest.now goes) c.in_err-stmt.field-0.0 c.in_err-stmt.ensures.gives))

pub loop-alloc-preserved : goal.loop-alloc-preserved
loop-alloc-preserved c =
    let goes : goes_on (begins_stmt c.args.in_rule) c.loop-alloc.rest.now ≡ true = sym c.begins_stmt.ensures ∙ c.loop-alloc-test.true in
    let stmts = c.loop-alloc.stmts in
    let stmt = c.in_ok-stmt.stmt in record {
      row = rw (c.in_ok-push.ensures.ok, map_push plain_stmt stmts stmt, c.in_ok-stmt.ensures.next)
          (row_on c.loop-alloc.invariant.row goes (plain_stmt stmt) c.in_ok-stmt.after.now c.in_ok-stmt.ensures.gives
          (omega (arith, c.in_ok-stmt.ensures.room, c.in_ok-stmt.ensures.next)));
      numbers = rw c.in_ok-push.ensures.ok (omega (arith, c.loop-alloc.invariant.numbers, c.in_ok-stmt.ensures.next, numbers_more stmt_numbers plain_stmt stmts stmt));
      few = omega (arith, c.loop-alloc.invariant.few, c.in_ok-stmt.ensures.room);
    }

pub returns-clause-gives : goal.returns-clause-gives
returns-clause-gives c = sym (with_front_none _) ∙ row_ends c.loop-alloc.invariant.row (sym c.begins_stmt.ensures ∙ c.loop-alloc-test.false)
