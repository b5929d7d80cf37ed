use Rattle.pt_ast.proofs.OneType.{one-type}
use Rattle.pt_ast.proofs.laws.exprs_have_one_type.Goals as goal

pub returns : goal.returns
returns c = one-type
