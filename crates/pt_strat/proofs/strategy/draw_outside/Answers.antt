use Rattle.std.proofs.Common.{ap}
use Rattle.pt_strat.specs.Scope.{self_plan}
use Rattle.pt_strat.proofs.strategy.draw_outside.Goals as goal

pub returns-clause-drew : goal.returns-clause-drew
returns-clause-drew c = let means = ap self_plan c.outside-scope.ensures in rw means at c.draw_in.ensures.drew
