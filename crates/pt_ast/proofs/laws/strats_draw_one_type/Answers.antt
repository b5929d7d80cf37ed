use Rattle.pt_ast.proofs.OneType.{one-drawn}
use Rattle.pt_ast.proofs.laws.strats_draw_one_type.Goals as goal

pub returns : goal.returns
returns c = one-drawn
