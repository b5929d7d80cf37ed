use Rattle.pt_typed.proofs.DrawLemmas.{drawn-inside, drawn-closed, drawn-spans, drawn-notes, drawn-stopped}
use Rattle.pt_typed.proofs.draw.draw_from.Goals as goal

pub returns-clause-inside : goal.returns-clause-inside
returns-clause-inside g c = drawn-inside _ _ _ _ _ c.draw.result (g.met.S.Strategy.lawful c.args.strategy.now) c.draw.ensures

pub returns-clause-closed : goal.returns-clause-closed
returns-clause-closed g c = drawn-closed _ _ _ _ _ c.draw.result (g.met.S.Strategy.lawful c.args.strategy.now) c.draw.ensures

pub returns-clause-spans : goal.returns-clause-spans
returns-clause-spans g c = drawn-spans _ _ _ _ _ (g.met.S.Strategy.lawful c.args.strategy.now) c.draw.result c.draw.ensures

pub returns-clause-notes : goal.returns-clause-notes
returns-clause-notes g c = drawn-notes _ _ _ _ _ (g.met.S.Strategy.lawful c.args.strategy.now) c.draw.result c.draw.ensures

pub returns-clause-stopped : goal.returns-clause-stopped
returns-clause-stopped g c = drawn-stopped _ _ _ _ _ (g.met.S.Strategy.lawful c.args.strategy.now) c.draw.result c.draw.ensures
