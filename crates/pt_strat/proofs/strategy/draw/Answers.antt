use Rattle.pt_ast.specs.Plain.{plain_strat}
use Rattle.pt_strat.proofs.DrawnLaws.{drawn-inside, drawn-spans, drawn-notes, drawn-stopped}
use Rattle.pt_strat.proofs.strategy.draw.Goals as goal

pub returns-clause-inside : goal.returns-clause-inside
returns-clause-inside c =
    drawn-inside (plain_strat c.args.s.now) c.args.env.now _ _ c.draw_outside.result (rw c.in_ok-names.ensures at c.draw_outside.ensures.drew)

pub returns-clause-spans : goal.returns-clause-spans
returns-clause-spans c =
    drawn-spans (plain_strat c.args.s.now) c.args.env.now _ _ c.draw_outside.result (rw c.in_ok-names.ensures at c.draw_outside.ensures.drew)

pub returns-clause-notes : goal.returns-clause-notes
returns-clause-notes c =
    drawn-notes (plain_strat c.args.s.now) c.args.env.now _ _ c.draw_outside.result (rw c.in_ok-names.ensures at c.draw_outside.ensures.drew)

pub returns-clause-stopped : goal.returns-clause-stopped
returns-clause-stopped c =
    drawn-stopped (plain_strat c.args.s.now) c.args.env.now _ _ c.draw_outside.result (rw c.in_ok-names.ensures at c.draw_outside.ensures.drew)
