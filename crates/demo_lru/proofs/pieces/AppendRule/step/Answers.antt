use Rattle.demo_lru.proofs.PiecesLemmas.{append-balanced}
use Rattle.demo_lru.proofs.pieces.AppendRule.step.Goals as goal

pub returns-clause-balanced : goal.returns-clause-balanced
returns-clause-balanced c = append-balanced c.args.state.now
