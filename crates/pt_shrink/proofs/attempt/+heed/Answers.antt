use Rattle.std.proofs.Common.{arith, sym, ◌∙◌}
use Rattle.pt_shrink.proofs.ProgressLemmas.{owes-full, owes-none, owes-tried, owes-next, entered-none, entered-some, grows-trans, grows-entered}
use Rattle.pt_shrink.proofs.attempt.+heed.Goals as goal
use Rattle.pt_shrink.proofs.attempt.+heed.Goals.{then-len-budget-via-then-len-budget, then-len-budget-via-else-len-budget+then-has}

pub returns-in_default-clause-reached : goal.returns-in_default-clause-reached
returns-in_default-clause-reached g t c = λ first owes.
    owes-none (g.C.Check.step c.args.check.now) c.args.budget first c.args.old.now c.args.new c.args.log.now owes (λ asked is. sym c.in_default.is ∙ c.in_ok-list.ensures asked is)

pub returns-then-len-budget-clause-reached : goal.returns-then-len-budget-clause-reached
returns-then-len-budget-clause-reached g t c = λ first owes. elim c.then-len-budget.branch [
  | then-len-budget-via-then-len-budget w ↦
      owes-full (g.C.Check.step c.args.check.now) c.args.budget first c.args.old.now c.args.new c.args.log.now owes (omega (arith, c.len.ensures, w.if-len-budget.true))
  | then-len-budget-via-else-len-budget+then-has w ↦
      owes-tried (g.C.Check.step c.args.check.now) c.args.budget first c.args.old.now c.args.new c.args.log.now owes c.in-Some.list
      (λ asked is. sym c.in-Some.is ∙ c.in_ok-list.ensures asked is) (w.has.ensures.0 w.if-has.true)
]

pub returns-in-None-clause-reached : goal.returns-in-None-clause-reached
returns-in-None-clause-reached g t c = λ first owes.
    entered-none (g.C.Check.step c.args.check.now) c.args.budget first c.args.new c.enter.new.log c.in_ok-enter.field-0 c.in-None.is
    (c.in_ok-enter.ensures.reached c.args.budget first (omega (arith, c.len.ensures, c.if-len-budget.false))
    (owes-next (g.C.Check.step c.args.check.now) c.args.budget first c.args.old.now c.args.new c.args.log.now owes c.in-Some.list (λ asked is. sym c.in-Some.is ∙ c.in_ok-list.ensures asked is)))

pub returns-in_ok-gain-in-Some-2-clause-reached : goal.returns-in_ok-gain-in-Some-2-clause-reached
returns-in_ok-gain-in-Some-2-clause-reached g t c = λ first owes. c.in_ok-gain-in-Some-2.ensures.reached first
    (entered-some (g.C.Check.step c.args.check.now) c.args.budget first c.args.new c.enter.new.log c.in_ok-enter.field-0 c.in-Some-2.further c.in-Some-2.is
    (c.in_ok-enter.ensures.reached c.args.budget first (omega (arith, c.len.ensures, c.if-len-budget.false))
    (owes-next (g.C.Check.step c.args.check.now) c.args.budget first c.args.old.now c.args.new c.args.log.now owes c.in-Some.list (λ asked is. sym c.in-Some.is ∙ c.in_ok-list.ensures asked is))))

pub returns-in_ok-gain-in-Some-2-clause-grows : goal.returns-in_ok-gain-in-Some-2-clause-grows
returns-in_ok-gain-in-Some-2-clause-grows g t c =
    grows-trans c.args.budget c.args.log.now c.enter.new.log _ (grows-entered c.args.budget c.args.log.now c.enter.new.log c.in-Some.list c.in_ok-enter.ensures.entered (omega (arith, c.len.ensures, c.if-len-budget.false)))
    c.in_ok-gain-in-Some-2.ensures.grows
