use Rattle.std.proofs.Common.{Some, arith}
use Rattle.pt_shrink.proofs.ProgressLemmas.{entered-none, entered-some, grows-trans, grows-entered}
use Rattle.pt_shrink.proofs.attempt.attempt.Goals as goal

pub returns-in-None-clause-goes_on : goal.returns-in-None-clause-goes_on
returns-in-None-clause-goes_on g c = record {
  fails = λ fails. fails;
  grows = grows-entered c.args.budget c.args.log.now c.enter.new.log c.args.list c.in_ok-enter.ensures.entered (omega (arith, c.len.ensures, c.if-len-budget.false));
  reached = λ first at. entered-none (g.C.Check.step c.args.check.now) c.args.budget first c.args.best.now c.enter.new.log c.in_ok-enter.field-0 c.in-None.is
      (c.in_ok-enter.ensures.reached c.args.budget first (omega (arith, c.len.ensures, c.if-len-budget.false)) (at (Some c.args.list)));
}

pub returns-in_ok-heed-in-Some-clause-goes_on : goal.returns-in_ok-heed-in-Some-clause-goes_on
returns-in_ok-heed-in-Some-clause-goes_on g c = record {
  fails = λ fails. c.in_ok-heed-in-Some.ensures.fails;
  grows = grows-trans c.args.budget c.args.log.now c.enter.new.log _
      (grows-entered c.args.budget c.args.log.now c.enter.new.log c.args.list c.in_ok-enter.ensures.entered (omega (arith, c.len.ensures, c.if-len-budget.false))) c.in_ok-heed-in-Some.ensures.grows;
  reached = λ first at. c.in_ok-heed-in-Some.ensures.reached first
      (entered-some (g.C.Check.step c.args.check.now) c.args.budget first c.args.best.now c.enter.new.log c.in_ok-enter.field-0 c.in-Some.rec c.in-Some.is
      (c.in_ok-enter.ensures.reached c.args.budget first (omega (arith, c.len.ensures, c.if-len-budget.false)) (at (Some c.args.list))));
}
