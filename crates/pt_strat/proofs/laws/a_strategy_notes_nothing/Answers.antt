use Rattle.pt_strat.proofs.QuietLaws.{stays-silent}
use Rattle.pt_strat.proofs.laws.a_strategy_notes_nothing.Goals as goal

pub returns : goal.returns
returns c = stays-silent
