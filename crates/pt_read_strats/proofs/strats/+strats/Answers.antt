use Rattle.std.proofs.Common.{◌≡◌, ◌-◌, suc, map, ◌++◌, ◌∷◌, [], sym, subst, arith}
use Rattle.std.proofs.lemmas.Result.{err_from_is_err_and}
use Rattle.std.proofs.lemmas.List.{map_push}
use Rattle.pt_ast.specs.Plain.{plain_strat}
use Rattle.pt_grammar.specs.Reading.{room_at}
use Rattle.pt_grammar.specs.StratReading.{strat_below}
use Rattle.pt_taking.specs.Gives.{Gives}
use Rattle.pt_taking.proofs.Rows.{row_on, row_ends, row_fails, then_ok, then_fails}
use Rattle.pt_read_strats.proofs.Counts.{strats_more}
use Rattle.pt_read_strats.proofs.strats.+strats.Goals as goal

pub strat_below-returns-clause-gives : goal.strat_below-returns-clause-gives
unfolding strat_below
strat_below-returns-clause-gives t c =
    let k : c.args.left ≡ suc (c.args.left - 1) = omega arith in
    subst (λ n. Gives (λ x. (plain_strat x.0.value, x.2.now)) c.read_strat.result (strat_below n c.args.from c.args.tokens.now)) (sym k) c.read_strat.ensures.gives

pub read_more-returns-in_err-part-clause-gives : goal.read_more-returns-in_err-part-clause-gives
read_more-returns-in_err-part-clause-gives t c =
    let p = err_from_is_err_and c.from_residual.result c.from_residual.ensures.1 in
    let s = c.in-Some.ensures.stands in
    rw (p.1, p.2) (row_fails c.loop-behind.invariant.row s.0 (omega (arith, c.in-Some.ensures.shorter)) c.in_err-part.field-0.0
    (then_fails (λ m. room_at (strat_below c.args.left c.loop-behind.next) c.loop-behind.space m.1) c.in_err-part.field-0.0 s.1 c.in_err-part.ensures.gives))

pub read_more-loop-behind-preserved : goal.read_more-loop-behind-preserved
read_more-loop-behind-preserved t c =
    let s = c.in-Some.ensures.stands in
    let part = c.in_ok-part.part.value in
    let e : map plain_strat c.push.new.parts ≡ map plain_strat c.loop-behind.parts ++ plain_strat part ∷ [] =
    rw c.in_ok-push.ensures (map_push _ c.loop-behind.parts part) in record {
      row = rw (e, c.saturating_sub-space.ensures, c.in_ok-part.ensures.next) (row_on c.loop-behind.invariant.row s.0 (plain_strat part) c.in_ok-part.more.now
          (then_ok (λ m. room_at (strat_below c.args.left c.loop-behind.next) c.loop-behind.space m.1) s.1 c.in_ok-part.ensures.gives)
          (omega (arith, c.in-Some.ensures.shorter, c.in_ok-part.ensures.room, c.in_ok-part.ensures.next)));
      numbers = rw c.in_ok-push.ensures (omega (arith, c.loop-behind.invariant.numbers, c.in_ok-part.ensures.next, strats_more c.loop-behind.parts part));
      few = omega (arith, c.loop-behind.invariant.few, c.in-Some.ensures.shorter, c.in_ok-part.ensures.room);
    }

pub read_more-returns-clause-gives : goal.read_more-returns-clause-gives
read_more-returns-clause-gives t c = row_ends c.loop-behind.invariant.row c.in_default.ensures.stands
