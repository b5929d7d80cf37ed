use Rattle.pt_ast.proofs.OneType.{one-declared}
use Rattle.pt_ast.proofs.laws.states_leave_one_scope.Goals as goal

pub returns : goal.returns
returns c = one-declared
