use Rattle.pt_strat.proofs.QuietLaws.{leaves-its-spans}
use Rattle.pt_strat.proofs.laws.a_strategy_leaves_its_spans.Goals as goal

pub returns : goal.returns
returns c = leaves-its-spans
