use Rattle.pt_ast.proofs.OneType.{one-scope}
use Rattle.pt_ast.proofs.laws.stmts_leave_one_scope.Goals as goal

pub returns : goal.returns
returns c = one-scope
